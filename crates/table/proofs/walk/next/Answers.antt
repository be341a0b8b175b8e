use mathlib.Core.Path.{◌≡◌, sym}
use native.Mathlib.Omega.{arith}
use Rattle.rows.proofs.Laws.Loops.{below_none, below_more}
use Rattle.rows.proofs.Laws.Quantifiers.{any_none, least_hit, least_none}
use Rattle.table.proofs.walk.next.Goals as goal

pub loop-c-init : goal.loop-c-init
loop-c-init c = (omega arith, below_none _)

pub returns-then-edge : goal.returns-then-edge
returns-then-edge c =
    let l = c.loop-c in
    sym (least_hit _ _ l.c c.loop-c-test.true (rw (c.edge-in-loop-c.ensures, c.edge.ensures) at c.if-edge.true) l.invariant.1)

pub loop-c-preserved : goal.loop-c-preserved
loop-c-preserved c =
    let l = c.loop-c in
    (omega arith, below_more _ l.c l.invariant.1 (rw (c.edge-in-loop-c.ensures, c.edge.ensures) at c.if-edge.false))

pub returns : goal.returns
returns c =
    let l = c.loop-c in
    let e : l.c ≡ c.args.n = omega arith in
    sym (least_none _ _ (any_none _ _ (rw e at l.invariant.1)))
