use Prim.Native.Nat.{ℕ}
use mathlib.Core.Bool.{Bool, ◌&&◌}
use mathlib.Core.List.{List}
use mathlib.Core.Path.{◌≡◌, refl, sym, ◌∙◌}
use native.Mathlib.Omega.{arith}
use Rattle.rows.specs.Sets.{any}
use Rattle.rows.specs.Numbers.{held}
use Rattle.rows.specs.Laws.Truth.{and_both}
use Rattle.rows.proofs.Laws.Quantifiers.{any_in}
use Rattle.model.specs.Model.{Rf, atomic}
use Rattle.slow.specs.Laws.Loops.{none_more, guard_no, inner_no}
use Rattle.slow.specs.Laws.Rules.{rule25_by_lem}
use Rattle.slow.proofs.offences.rule25.Invariants.{f2, f1, g1}
use Rattle.slow.proofs.offences.rule25.Goals as goal
use Rattle.slow.proofs.offences.rule25.Goals.{then-is-edge+else-loop-f-test, else-is-edge}

abbrev g0 : List ℕ → ℕ → ℕ → ℕ → Bool
g0 t n y b = Rf n (held t) y b && atomic n (held t) b

pub returns-then-not-edge-is : goal.returns-then-not-edge-is
returns-then-not-edge-is c =
    let s = c.args in
    sym (guard_no (g0 s.t.numbers.now s.t.n s.y s.b) (any s.t.n (f1 s.t.numbers.now s.t.n s.y s.b)) (rw (c.is.ensures, c.edge.ensures) at c.if-not-edge-is.true)) ∙ rule25_by_lem s.t.n (held s.t.numbers.now) s.y s.b

pub loop-a-init : goal.loop-a-init
unfolding any
loop-a-init c = (omega arith, refl)

pub loop-f-init : goal.loop-f-init
unfolding any
loop-f-init c = (omega arith, refl)

pub returns-then-edge-sc_fence : goal.returns-then-edge-sc_fence
returns-then-edge-sc_fence c =
    let s = c.args in
    let l1 = c.loop-a in
    let l2 = c.loop-f in
    sym (and_both (rw (c.is.ensures, c.edge.ensures) at c.if-not-edge-is.false) (any_in s.t.n (f1 s.t.numbers.now s.t.n s.y s.b) l1.a (omega arith) (and_both {a = (g1 s.t.numbers.now s.t.n s.y s.b l1.a)} (rw (c.up_to.ensures, c.edge-in-loop-a.ensures, c.is-in-loop-a-2.ensures, c.is-in-loop-a.ensures) at c.if-is-edge.true) (any_in s.t.n (f2 s.t.numbers.now s.t.n s.y s.b l1.a) l2.f (omega arith) (rw (c.edge-in-loop-f-2.ensures, c.sc_fence.ensures, c.edge-in-loop-f.ensures) at c.if-edge-sc_fence.true))))) ∙ rule25_by_lem s.t.n (held s.t.numbers.now) s.y s.b

pub loop-f-preserved : goal.loop-f-preserved
loop-f-preserved c =
    let s = c.args in
    let l1 = c.loop-a in
    let l2 = c.loop-f in
    (omega arith, none_more (f2 s.t.numbers.now s.t.n s.y s.b l1.a) l2.f l2.invariant.1 (rw (c.edge-in-loop-f-2.ensures, c.sc_fence.ensures, c.edge-in-loop-f.ensures) at c.if-edge-sc_fence.false))

pub loop-a-preserved : goal.loop-a-preserved
loop-a-preserved c =
    let s = c.args in
    let l1 = c.loop-a in
    (omega arith, none_more (f1 s.t.numbers.now s.t.n s.y s.b) l1.a l1.invariant.1 (elim c.if-is-edge.branch [ then-is-edge+else-loop-f-test w ↦ inner_no (g1 s.t.numbers.now s.t.n s.y s.b l1.a) _ (let e : w.loop-f.f ≡ s.t.n = omega (arith, w.loop-f-test.false, w.loop-f.invariant.0) in rw e at w.loop-f.invariant.1) | else-is-edge w ↦ guard_no _ (any s.t.n (f2 s.t.numbers.now s.t.n s.y s.b l1.a)) (rw (c.up_to.ensures, c.edge-in-loop-a.ensures, c.is-in-loop-a-2.ensures, c.is-in-loop-a.ensures) at w.if-is-edge.false) ]))

pub returns : goal.returns
returns c =
    let s = c.args in
    let l1 = c.loop-a in
    let e : l1.a ≡ s.t.n = omega arith in
    sym (inner_no (g0 s.t.numbers.now s.t.n s.y s.b) _ (rw e at l1.invariant.1)) ∙ rule25_by_lem s.t.n (held s.t.numbers.now) s.y s.b
