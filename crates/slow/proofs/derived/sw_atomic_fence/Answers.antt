use Prim.Native.Nat.{ℕ}
use mathlib.Core.Bool.{Bool, ◌&&◌}
use mathlib.Core.List.{List}
use mathlib.Core.Path.{◌≡◌, refl, sym}
use native.Mathlib.Omega.{arith}
use Rattle.rows.specs.Sets.{any}
use Rattle.rows.specs.Numbers.{held}
use Rattle.rows.specs.Laws.Truth.{and_both}
use Rattle.rows.proofs.Laws.Quantifiers.{any_in}
use Rattle.model.specs.Model.{atomic, fence, acquire, release}
use Rattle.slow.specs.Laws.Loops.{none_more, guard_no, inner_no}
use Rattle.slow.proofs.derived.sw_atomic_fence.Invariants.{f1, g1, q}
use Rattle.slow.proofs.derived.sw_atomic_fence.Goals as goal
use Rattle.slow.proofs.derived.sw_atomic_fence.Goals.{else-is-edge-via-then-is-edge+else-released, else-is-edge-via-else-is-edge}

abbrev g0 : List ℕ → ℕ → ℕ → ℕ → Bool
g0 t n a b = release n (held t) a && atomic n (held t) a && acquire n (held t) b && fence n (held t) b

pub returns-then-not-is : goal.returns-then-not-is
returns-then-not-is c =
    let s = c.args in
    sym (guard_no (g0 s.t.numbers.now s.t.n s.a s.b) (any s.t.n (f1 s.t.numbers.now s.t.n s.a s.b)) (rw (c.is-4.ensures, c.is-3.ensures, c.is-2.ensures, c.is.ensures) at c.if-not-is.true))

pub loop-x-init : goal.loop-x-init
unfolding any
loop-x-init c = (omega arith, refl)

pub returns-then-released : goal.returns-then-released
returns-then-released c =
    let s = c.args in
    let l1 = c.loop-x in
    sym (and_both (rw (c.is-4.ensures, c.is-3.ensures, c.is-2.ensures, c.is.ensures) at c.if-not-is.false) (any_in s.t.n (f1 s.t.numbers.now s.t.n s.a s.b) l1.x (omega arith) (and_both {a = g1 s.t.numbers.now s.t.n s.a s.b l1.x} (rw (c.edge-in-loop-x.ensures, c.edge.ensures, c.is-in-loop-x.ensures) at c.if-is-edge.true) (rw c.released.ensures at c.if-released.true))))

pub loop-x-preserved : goal.loop-x-preserved
loop-x-preserved c =
    let s = c.args in
    let l1 = c.loop-x in
    (omega arith, none_more (f1 s.t.numbers.now s.t.n s.a s.b) l1.x l1.invariant.1 (elim c.else-is-edge.branch [ else-is-edge-via-then-is-edge+else-released w ↦ inner_no (g1 s.t.numbers.now s.t.n s.a s.b l1.x) _ (rw w.released.ensures at w.if-released.false) | else-is-edge-via-else-is-edge w ↦ guard_no _ (q s.t.numbers.now s.t.n s.a s.b l1.x) (rw (c.edge-in-loop-x.ensures, c.edge.ensures, c.is-in-loop-x.ensures) at w.if-is-edge.false) ]))

pub returns : goal.returns
returns c =
    let s = c.args in
    let l1 = c.loop-x in
    let e : l1.x ≡ s.t.n = omega arith in
    sym (inner_no (g0 s.t.numbers.now s.t.n s.a s.b) _ (rw e at l1.invariant.1))
