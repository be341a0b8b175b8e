use mathlib.Core.Path.{◌≡◌, refl, sym}
use native.Mathlib.Omega.{arith}
use Rattle.rows.specs.Sets.{any}
use Rattle.rows.specs.Laws.Truth.{and_both}
use Rattle.rows.proofs.Laws.Quantifiers.{any_in}
use Rattle.slow.specs.Laws.Loops.{none_more, guard_no, inner_no}
use Rattle.slow.proofs.offences.fenced.Invariants.{f2, f1, g1}
use Rattle.slow.proofs.offences.fenced.Goals as goal
use Rattle.slow.proofs.offences.fenced.Goals.{then-edge-is+else-loop-g-test, else-edge-is}

pub loop-f-init : goal.loop-f-init
unfolding any
loop-f-init c = (omega arith, refl)

pub loop-g-init : goal.loop-g-init
unfolding any
loop-g-init c = (omega arith, refl)

pub returns-then-is-edge : goal.returns-then-is-edge
returns-then-is-edge c =
    let s = c.args in
    let l1 = c.loop-f in
    let l2 = c.loop-g in
    sym (any_in s.t.n (f1 s.t.numbers.now s.t.n s.a s.b) l1.f (omega arith) (and_both {a = (g1 s.t.numbers.now s.t.n s.a s.b l1.f)} (rw (c.is.ensures, c.edge.ensures) at c.if-edge-is.true) (any_in s.t.n (f2 s.t.numbers.now s.t.n s.a s.b l1.f) l2.g (omega arith) (rw (c.edge-in-loop-g-2.ensures, c.edge-in-loop-g.ensures, c.is-in-loop-g.ensures) at c.if-is-edge.true))))

pub loop-g-preserved : goal.loop-g-preserved
loop-g-preserved c =
    let s = c.args in
    let l1 = c.loop-f in
    let l2 = c.loop-g in
    (omega arith, none_more (f2 s.t.numbers.now s.t.n s.a s.b l1.f) l2.g l2.invariant.1 (rw (c.edge-in-loop-g-2.ensures, c.edge-in-loop-g.ensures, c.is-in-loop-g.ensures) at c.if-is-edge.false))

pub loop-f-preserved : goal.loop-f-preserved
loop-f-preserved c =
    let s = c.args in
    let l1 = c.loop-f in
    (omega arith, none_more (f1 s.t.numbers.now s.t.n s.a s.b) l1.f l1.invariant.1 (elim c.if-edge-is.branch [ then-edge-is+else-loop-g-test w ↦ inner_no (g1 s.t.numbers.now s.t.n s.a s.b l1.f) _ (let e : w.loop-g.g ≡ s.t.n = omega (arith, w.loop-g-test.false, w.loop-g.invariant.0) in rw e at w.loop-g.invariant.1) | else-edge-is w ↦ guard_no _ (any s.t.n (f2 s.t.numbers.now s.t.n s.a s.b l1.f)) (rw (c.is.ensures, c.edge.ensures) at w.if-edge-is.false) ]))

pub returns : goal.returns
returns c =
    let s = c.args in
    let l1 = c.loop-f in
    let e : l1.f ≡ s.t.n = omega arith in
    sym (rw e at l1.invariant.1)
