use mathlib.Core.Path.{◌≡◌, refl, sym}
use native.Mathlib.Omega.{arith}
use Rattle.rows.specs.Sets.{any}
use Rattle.rows.specs.Laws.Truth.{and_both}
use Rattle.rows.proofs.Laws.Quantifiers.{any_in}
use Rattle.slow.specs.Laws.Loops.{none_more, guard_no, inner_no}
use Rattle.slow.proofs.derived.sb_then_r.Invariants.{f1, g1, q}
use Rattle.slow.proofs.derived.sb_then_r.Goals as goal
use Rattle.slow.proofs.derived.sb_then_r.Goals.{else-edge-via-then-edge+else-r, else-edge-via-else-edge}

pub loop-z-init : goal.loop-z-init
unfolding any
loop-z-init c = (omega arith, refl)

pub returns-then-r : goal.returns-then-r
returns-then-r c =
    let s = c.args in
    let l1 = c.loop-z in
    sym (any_in s.t.n (f1 s.t.numbers.now s.t.n s.a s.b) l1.z (omega arith) (and_both {a = g1 s.t.numbers.now s.t.n s.a s.b l1.z} (rw c.edge.ensures at c.if-edge.true) (rw c.r.ensures at c.if-r.true)))

pub loop-z-preserved : goal.loop-z-preserved
loop-z-preserved c =
    let s = c.args in
    let l1 = c.loop-z in
    (omega arith, none_more (f1 s.t.numbers.now s.t.n s.a s.b) l1.z l1.invariant.1 (elim c.else-edge.branch [ else-edge-via-then-edge+else-r w ↦ inner_no (g1 s.t.numbers.now s.t.n s.a s.b l1.z) _ (rw w.r.ensures at w.if-r.false) | else-edge-via-else-edge w ↦ guard_no _ (q s.t.numbers.now s.t.n s.a s.b l1.z) (rw c.edge.ensures at w.if-edge.false) ]))

pub returns : goal.returns
returns c =
    let s = c.args in
    let l1 = c.loop-z in
    let e : l1.z ≡ s.t.n = omega arith in
    sym (rw e at l1.invariant.1)
