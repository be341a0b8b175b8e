use mathlib.Core.Path.{◌≡◌, refl, sym}
use native.Mathlib.Omega.{arith}
use Rattle.rows.specs.Sets.{any}
use Rattle.rows.proofs.Laws.Quantifiers.{any_in}
use Rattle.slow.specs.Laws.Loops.{none_more}
use Rattle.slow.proofs.serial.has_fence.Goals as goal

pub loop-a-init : goal.loop-a-init
unfolding any
loop-a-init c = (omega arith, refl)

pub returns-then-is : goal.returns-then-is
returns-then-is c =
    let l = c.loop-a in
    sym (any_in _ _ l.a c.loop-a-test.true (rw c.is.ensures at c.if-is.true))

pub loop-a-preserved : goal.loop-a-preserved
loop-a-preserved c =
    let l = c.loop-a in
    (omega arith, none_more _ l.a l.invariant.1 (rw c.is.ensures at c.if-is.false))

pub returns : goal.returns
returns c =
    let l = c.loop-a in
    let e : l.a ≡ c.args.t.n = omega arith in
    sym (rw e at l.invariant.1)
