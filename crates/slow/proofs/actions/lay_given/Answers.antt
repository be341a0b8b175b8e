use mathlib.Core.Path.{◌≡◌, refl}
use native.Mathlib.Omega.{arith}
use borrow.Author.Rules.{rules}
use Rattle.rows.specs.Numbers.{held}
use Rattle.model.specs.Laws.Books.{up_none, up_more}
use Rattle.slow.proofs.actions.lay_given.Goals as goal

pub loop-k-init : goal.loop-k-init
loop-k-init c =
    let s = c.args in
    (omega arith, (refl, up_none (held s.store.now) (held s.t.now)))

pub loop-k-preserved : goal.loop-k-preserved
loop-k-preserved c =
    let s = c.args in
    let l = c.loop-k in
    let new = c.take in
    (omega arith, (search rules, up_more (held s.store.now) (held s.t.now) (held l.t) (held new.new.t) l.k l.invariant.1.1 new.ensures))

pub returns : goal.returns
returns c = let e : c.loop-k.k ≡ 7 = omega arith in rw e at c.loop-k.invariant.1.1
