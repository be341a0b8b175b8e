use mathlib.Core.Path.{◌≡◌, refl}
use native.Mathlib.Omega.{arith}
use borrow.Author.Rules.{rules}
use Rattle.rows.specs.Sets.{before}
use Rattle.rows.specs.Numbers.{held}
use Rattle.slow.specs.Laying.{row}
use Rattle.slow.specs.Laws.Laying.{laid_none, laid_next}
use Rattle.slow.proofs.actions.lay_part.Goals as goal

pub loop-a-init : goal.loop-a-init
loop-a-init c =
    let s = c.args in
    (omega arith, (refl, laid_none s.k (λ r. before (row s.acts s.places.now s.k r) s.n) (held s.t.now) c.requires.3))

pub loop-a-preserved : goal.loop-a-preserved
loop-a-preserved c =
    let s = c.args in
    let l = c.loop-a in
    let new = c.lay_row in
    (omega arith, (search rules, laid_next s.k (λ r. before (row s.acts s.places.now s.k r) s.n) (held s.t.now) (held l.t) (held new.new.t) l.a l.invariant.1.1 new.ensures))

pub returns : goal.returns
returns c =
    let e : c.loop-a.a ≡ c.args.rows = omega arith in
    rw e at c.loop-a.invariant.1.1
