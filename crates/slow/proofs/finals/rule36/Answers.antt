use Prim.Native.Nat.{ℕ}
use mathlib.Core.Bool.{Bool}
use mathlib.Core.List.{List}
use mathlib.Core.Path.{◌≡◌, refl, sym, ◌∙◌}
use native.Mathlib.Omega.{arith}
use Rattle.rows.specs.Sets.{any}
use Rattle.rows.specs.Numbers.{held}
use Rattle.rows.specs.Laws.Truth.{and_both}
use Rattle.rows.proofs.Laws.Quantifiers.{any_in}
use Rattle.model.specs.Model.{Hb, r}
use Rattle.slow.specs.Laws.Loops.{none_more, guard_no, inner_no}
use Rattle.slow.specs.Laws.Rules.{rule36_by_lem}
use Rattle.slow.proofs.finals.rule36.Invariants.{f2, f1, g1}
use Rattle.slow.proofs.finals.rule36.Goals as goal
use Rattle.slow.proofs.finals.rule36.Goals.{then-edge+else-loop-v-test, else-edge}

abbrev g0 : List ℕ → ℕ → ℕ → ℕ → Bool
g0 t n r s = Hb n (held t) r s

pub returns-then-not-edge : goal.returns-then-not-edge
returns-then-not-edge c =
    let s = c.args in
    sym (guard_no (g0 s.t.numbers.now s.t.n s.r s.s) (any s.t.n (f1 s.t.numbers.now s.t.n s.r s.s)) (rw c.edge.ensures at c.if-not-edge.true)) ∙ rule36_by_lem s.t.n (held s.t.numbers.now) s.r s.s

pub loop-w-init : goal.loop-w-init
unfolding any
loop-w-init c = (omega arith, refl)

pub loop-v-init : goal.loop-v-init
unfolding any
loop-v-init c = (omega arith, refl)

pub returns-then-edge-2 : goal.returns-then-edge-2
returns-then-edge-2 c =
    let s = c.args in
    let l1 = c.loop-w in
    let l2 = c.loop-v in
    sym (and_both (rw c.edge.ensures at c.if-not-edge.false) (any_in s.t.n (f1 s.t.numbers.now s.t.n s.r s.s) l1.w (omega arith) (and_both {a = (g1 s.t.numbers.now s.t.n s.r s.s l1.w)} (rw c.edge-in-loop-w.ensures at c.if-edge.true) (any_in s.t.n (f2 s.t.numbers.now s.t.n s.r s.s l1.w) l2.v (omega arith) (rw (c.edge-in-loop-v-2.ensures, c.edge-in-loop-v.ensures) at c.if-edge-2.true))))) ∙ rule36_by_lem s.t.n (held s.t.numbers.now) s.r s.s

pub loop-v-preserved : goal.loop-v-preserved
loop-v-preserved c =
    let s = c.args in
    let l1 = c.loop-w in
    let l2 = c.loop-v in
    (omega arith, none_more (f2 s.t.numbers.now s.t.n s.r s.s l1.w) l2.v l2.invariant.1 (rw (c.edge-in-loop-v-2.ensures, c.edge-in-loop-v.ensures) at c.if-edge-2.false))

pub loop-w-preserved : goal.loop-w-preserved
loop-w-preserved c =
    let s = c.args in
    let l1 = c.loop-w in
    (omega arith, none_more (f1 s.t.numbers.now s.t.n s.r s.s) l1.w l1.invariant.1 (elim c.if-edge.branch [ then-edge+else-loop-v-test w ↦ inner_no (g1 s.t.numbers.now s.t.n s.r s.s l1.w) _ (let e : w.loop-v.v ≡ s.t.n = omega (arith, w.loop-v-test.false, w.loop-v.invariant.0) in rw e at w.loop-v.invariant.1) | else-edge w ↦ guard_no _ (any s.t.n (f2 s.t.numbers.now s.t.n s.r s.s l1.w)) (rw c.edge-in-loop-w.ensures at w.if-edge.false) ]))

pub returns : goal.returns
returns c =
    let s = c.args in
    let l1 = c.loop-w in
    let e : l1.w ≡ s.t.n = omega arith in
    sym (inner_no (g0 s.t.numbers.now s.t.n s.r s.s) _ (rw e at l1.invariant.1)) ∙ rule36_by_lem s.t.n (held s.t.numbers.now) s.r s.s
