use mathlib.Core.Path.{◌≡◌, refl, sym}
use native.Mathlib.Omega.{arith}
use Rattle.rows.specs.Sets.{any}
use Rattle.rows.proofs.Laws.Quantifiers.{any_no, least_hit, least_none}
use Rattle.model.specs.Judge.{next}
use Rattle.slow.specs.Laws.Loops.{none_more}
use Rattle.slow.proofs.serial.next.Goals as goal

pub loop-a-init : goal.loop-a-init
unfolding any
loop-a-init c = (omega arith, refl)

pub returns-then-is_left-preceded : goal.returns-then-is_left-preceded
unfolding next
returns-then-is_left-preceded c =
    let l = c.loop-a in
    sym (least_hit _ _ l.a c.loop-a-test.true (rw (c.preceded.ensures, c.is_left.ensures) at c.if-is_left-preceded.true) (any_no _ _ l.invariant.1))

pub loop-a-preserved : goal.loop-a-preserved
loop-a-preserved c =
    let l = c.loop-a in
    (omega arith, none_more _ l.a l.invariant.1 (rw (c.preceded.ensures, c.is_left.ensures) at c.if-is_left-preceded.false))

pub returns : goal.returns
unfolding next
returns c =
    let l = c.loop-a in
    let e : l.a ≡ c.args.t.n = omega arith in
    sym (least_none _ _ (rw e at l.invariant.1))
