use mathlib.Core.Path.{◌≡◌, fun_ext}
use native.Mathlib.Omega.{arith}
use borrow.Author.Rules.{rules}
use Rattle.table.specs.Laws.Walk.{walked_none, walked_next, walked_more}
use Rattle.slow.proofs.fill.fill_steps.Invariants.{pairs}
use Rattle.slow.proofs.fill.fill_steps.Goals as goal

pub loop-a-init : goal.loop-a-init
loop-a-init c =
    let s = c.args in
    (omega arith, (search rules, walked_none s.t.n (pairs s.k s.t.numbers.now s.t.n) (c.clear.ensures 0)))

pub loop-a-preserved : goal.loop-a-preserved
loop-a-preserved c =
    let l = c.loop-a in
    let s = c.args in
    let q = pairs s.k s.t.numbers.now s.t.n in
    (omega arith, (search rules, walked_more s.t.n q l.a l.invariant.1.1 (rw (walked_next s.t.n q l.a l.invariant.1.1) at c.fill_row.ensures)))

pub returns : goal.returns
returns c =
    let l = c.loop-a in
    let e : l.a ≡ c.args.t.n = omega arith in
    fun_ext (rw e at l.invariant.1.1)
