use mathlib.Core.Path.{◌≡◌, refl, sym}
use native.Mathlib.Omega.{arith}
use Rattle.rows.specs.Sets.{any}
use Rattle.rows.proofs.Laws.Quantifiers.{any_in}
use Rattle.slow.specs.Laws.Loops.{none_more}
use Rattle.slow.proofs.serial.preceded.Goals as goal

pub loop-z-init : goal.loop-z-init
unfolding any
loop-z-init c = (omega arith, refl)

pub returns-then-is_left-edge : goal.returns-then-is_left-edge
returns-then-is_left-edge c =
    let l = c.loop-z in
    sym (any_in _ _ l.z c.loop-z-test.true (rw (c.edge-in-loop-z.ensures, c.edge.ensures, c.is_left.ensures) at c.if-is_left-edge.true))

pub loop-z-preserved : goal.loop-z-preserved
loop-z-preserved c =
    let l = c.loop-z in
    (omega arith, none_more _ l.z l.invariant.1 (rw (c.edge-in-loop-z.ensures, c.edge.ensures, c.is_left.ensures) at c.if-is_left-edge.false))

pub returns : goal.returns
returns c =
    let l = c.loop-z in
    let e : l.z ≡ c.args.t.n = omega arith in
    sym (rw e at l.invariant.1)
