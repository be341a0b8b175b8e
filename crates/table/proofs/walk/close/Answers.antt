use mathlib.Core.Path.{◌≡◌, fun_ext}
use native.Mathlib.Omega.{arith}
use borrow.Author.Rules.{rules}
use Rattle.rows.specs.Numbers.{held}
use Rattle.rows.specs.Sets.{closure}
use Rattle.table.specs.Laws.Walk.{walked_none, walked_next, walked_more}
use Rattle.table.proofs.walk.close.Goals as goal

pub loop-a-init : goal.loop-a-init
loop-a-init c =
    let s = c.args in
    (omega arith, (search rules, walked_none s.n (closure s.n (held s.steps.now 0)) (c.clear.ensures 0)))

pub walk-requires : goal.walk-requires
walk-requires c =
    let l = c.loop-a in
    (c.loop-a-test.true, c.requires.0, l.invariant.1.0, walked_next c.args.n (closure c.args.n (held c.args.steps.now 0)) l.a l.invariant.1.1)

pub loop-a-preserved : goal.loop-a-preserved
loop-a-preserved c =
    let l = c.loop-a in
    let s = c.args in
    (omega arith, (search rules, walked_more s.n (closure s.n (held s.steps.now 0)) l.a l.invariant.1.1 c.walk.ensures))

pub returns : goal.returns
returns c =
    let l = c.loop-a in
    let e : l.a ≡ c.args.n = omega arith in
    fun_ext (rw e at l.invariant.1.1)
