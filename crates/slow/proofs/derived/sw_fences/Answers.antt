use Prim.Native.Nat.{ℕ}
use mathlib.Core.Bool.{Bool, ◌&&◌}
use mathlib.Core.List.{List}
use mathlib.Core.Path.{◌≡◌, refl, sym}
use native.Mathlib.Omega.{arith}
use Rattle.rows.specs.Sets.{any}
use Rattle.rows.specs.Numbers.{held}
use Rattle.rows.specs.Laws.Truth.{and_both}
use Rattle.rows.proofs.Laws.Quantifiers.{any_in}
use Rattle.model.specs.Model.{fence, acquire, release}
use Rattle.slow.specs.Laws.Loops.{none_more, guard_no, inner_no}
use Rattle.slow.proofs.derived.sw_fences.Invariants.{f2, f1, g2, q, g1}
use Rattle.slow.proofs.derived.sw_fences.Goals as goal
use Rattle.slow.proofs.derived.sw_fences.Goals.{else-is-edge-2-via-then-is-edge-2+else-heard, else-is-edge-2-via-else-is-edge-2, then-is-edge+else-loop-y-test, else-is-edge}

abbrev g0 : List ℕ → ℕ → ℕ → ℕ → Bool
g0 t n a b = release n (held t) a && fence n (held t) a && acquire n (held t) b && fence n (held t) b

pub returns-then-not-is : goal.returns-then-not-is
returns-then-not-is c =
    let s = c.args in
    sym (guard_no (g0 s.t.numbers.now s.t.n s.a s.b) (any s.t.n (f1 s.t.numbers.now s.t.n s.a s.b)) (rw (c.is-4.ensures, c.is-3.ensures, c.is-2.ensures, c.is.ensures) at c.if-not-is.true))

pub loop-x-init : goal.loop-x-init
unfolding any
loop-x-init c = (omega arith, refl)

pub loop-y-init : goal.loop-y-init
unfolding any
loop-y-init c = (omega arith, refl)

pub returns-then-heard : goal.returns-then-heard
returns-then-heard c =
    let s = c.args in
    let l1 = c.loop-x in
    let l2 = c.loop-y in
    sym (and_both (rw (c.is-4.ensures, c.is-3.ensures, c.is-2.ensures, c.is.ensures) at c.if-not-is.false) (any_in s.t.n (f1 s.t.numbers.now s.t.n s.a s.b) l1.x (omega arith) (and_both {a = (g1 s.t.numbers.now s.t.n s.a s.b l1.x)} (rw (c.edge.ensures, c.is-in-loop-x-2.ensures, c.is-in-loop-x.ensures) at c.if-is-edge.true) (any_in s.t.n (f2 s.t.numbers.now s.t.n s.a s.b l1.x) l2.y (omega arith) (and_both {a = g2 s.t.numbers.now s.t.n s.a s.b l1.x l2.y} (rw (c.edge-in-loop-y-2.ensures, c.edge-in-loop-y.ensures, c.is-in-loop-y.ensures) at c.if-is-edge-2.true) (rw c.heard.ensures at c.if-heard.true))))))

pub loop-y-preserved : goal.loop-y-preserved
loop-y-preserved c =
    let s = c.args in
    let l1 = c.loop-x in
    let l2 = c.loop-y in
    (omega arith, none_more (f2 s.t.numbers.now s.t.n s.a s.b l1.x) l2.y l2.invariant.1 (elim c.else-is-edge-2.branch [ else-is-edge-2-via-then-is-edge-2+else-heard w ↦ inner_no (g2 s.t.numbers.now s.t.n s.a s.b l1.x l2.y) _ (rw w.heard.ensures at w.if-heard.false) | else-is-edge-2-via-else-is-edge-2 w ↦ guard_no _ (q s.t.numbers.now s.t.n s.a s.b l1.x l2.y) (rw (c.edge-in-loop-y-2.ensures, c.edge-in-loop-y.ensures, c.is-in-loop-y.ensures) at w.if-is-edge-2.false) ]))

pub loop-x-preserved : goal.loop-x-preserved
loop-x-preserved c =
    let s = c.args in
    let l1 = c.loop-x in
    (omega arith, none_more (f1 s.t.numbers.now s.t.n s.a s.b) l1.x l1.invariant.1 (elim c.if-is-edge.branch [ then-is-edge+else-loop-y-test w ↦ inner_no (g1 s.t.numbers.now s.t.n s.a s.b l1.x) _ (let e : w.loop-y.y ≡ s.t.n = omega (arith, w.loop-y-test.false, w.loop-y.invariant.0) in rw e at w.loop-y.invariant.1) | else-is-edge w ↦ guard_no _ (any s.t.n (f2 s.t.numbers.now s.t.n s.a s.b l1.x)) (rw (c.edge.ensures, c.is-in-loop-x-2.ensures, c.is-in-loop-x.ensures) at w.if-is-edge.false) ]))

pub returns : goal.returns
returns c =
    let s = c.args in
    let l1 = c.loop-x in
    let e : l1.x ≡ s.t.n = omega arith in
    sym (inner_no (g0 s.t.numbers.now s.t.n s.a s.b) _ (rw e at l1.invariant.1))
