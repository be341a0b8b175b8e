use mathlib.Core.Path.{◌≡◌, refl, sym}
use native.Mathlib.Omega.{arith}
use Rattle.rows.specs.Sets.{any}
use Rattle.rows.specs.Laws.Truth.{and_both}
use Rattle.rows.proofs.Laws.Quantifiers.{any_in}
use Rattle.slow.specs.Laws.Loops.{none_more, guard_no, inner_no}
use Rattle.slow.proofs.offences.stale.Invariants.{f2, f1, g1}
use Rattle.slow.proofs.offences.stale.Goals as goal
use Rattle.slow.proofs.offences.stale.Goals.{then-edge+else-loop-y-test, else-edge}

pub loop-x-init : goal.loop-x-init
unfolding any
loop-x-init c = (omega arith, refl)

pub loop-y-init : goal.loop-y-init
unfolding any
loop-y-init c = (omega arith, refl)

pub returns-then-edge-up_to : goal.returns-then-edge-up_to
returns-then-edge-up_to c =
    let s = c.args in
    let l1 = c.loop-x in
    let l2 = c.loop-y in
    sym (any_in s.t.n (f1 s.t.numbers.now s.t.n s.a s.b) l1.x (omega arith) (and_both {a = (g1 s.t.numbers.now s.t.n s.a s.b l1.x)} (rw c.edge.ensures at c.if-edge.true) (any_in s.t.n (f2 s.t.numbers.now s.t.n s.a s.b l1.x) l2.y (omega arith) (rw (c.up_to.ensures, c.edge-in-loop-y.ensures) at c.if-edge-up_to.true))))

pub loop-y-preserved : goal.loop-y-preserved
loop-y-preserved c =
    let s = c.args in
    let l1 = c.loop-x in
    let l2 = c.loop-y in
    (omega arith, none_more (f2 s.t.numbers.now s.t.n s.a s.b l1.x) l2.y l2.invariant.1 (rw (c.up_to.ensures, c.edge-in-loop-y.ensures) at c.if-edge-up_to.false))

pub loop-x-preserved : goal.loop-x-preserved
loop-x-preserved c =
    let s = c.args in
    let l1 = c.loop-x in
    (omega arith, none_more (f1 s.t.numbers.now s.t.n s.a s.b) l1.x l1.invariant.1 (elim c.if-edge.branch [ then-edge+else-loop-y-test w ↦ inner_no (g1 s.t.numbers.now s.t.n s.a s.b l1.x) _ (let e : w.loop-y.y ≡ s.t.n = omega (arith, w.loop-y-test.false, w.loop-y.invariant.0) in rw e at w.loop-y.invariant.1) | else-edge w ↦ guard_no _ (any s.t.n (f2 s.t.numbers.now s.t.n s.a s.b l1.x)) (rw c.edge.ensures at w.if-edge.false) ]))

pub returns : goal.returns
returns c =
    let s = c.args in
    let l1 = c.loop-x in
    let e : l1.x ≡ s.t.n = omega arith in
    sym (rw e at l1.invariant.1)
