use mathlib.Core.Path.{◌≡◌, refl, sym}
use native.Mathlib.Omega.{arith}
use Rattle.rows.specs.Sets.{any}
use Rattle.rows.specs.Laws.Truth.{and_both}
use Rattle.rows.proofs.Laws.Quantifiers.{any_in}
use Rattle.slow.specs.Laws.Loops.{none_more, guard_no, inner_no}
use Rattle.slow.proofs.derived.seen.Invariants.{f1, g1, q}
use Rattle.slow.proofs.derived.seen.Goals as goal
use Rattle.slow.proofs.derived.seen.Goals.{else-edge-via-then-edge+else-sees, else-edge-via-else-edge}

pub loop-v-init : goal.loop-v-init
unfolding any
loop-v-init c = (omega arith, refl)

pub returns-then-sees : goal.returns-then-sees
returns-then-sees c =
    let s = c.args in
    let l1 = c.loop-v in
    sym (any_in s.t.n (f1 s.t.numbers.now s.t.n s.c s.b) l1.v (omega arith) (and_both {a = g1 s.t.numbers.now s.t.n s.c s.b l1.v} (rw c.edge.ensures at c.if-edge.true) (rw c.sees.ensures at c.if-sees.true)))

pub loop-v-preserved : goal.loop-v-preserved
loop-v-preserved c =
    let s = c.args in
    let l1 = c.loop-v in
    (omega arith, none_more (f1 s.t.numbers.now s.t.n s.c s.b) l1.v l1.invariant.1 (elim c.else-edge.branch [ else-edge-via-then-edge+else-sees w ↦ inner_no (g1 s.t.numbers.now s.t.n s.c s.b l1.v) _ (rw w.sees.ensures at w.if-sees.false) | else-edge-via-else-edge w ↦ guard_no _ (q s.t.numbers.now s.t.n s.c s.b l1.v) (rw c.edge.ensures at w.if-edge.false) ]))

pub returns : goal.returns
returns c =
    let s = c.args in
    let l1 = c.loop-v in
    let e : l1.v ≡ s.t.n = omega arith in
    sym (rw e at l1.invariant.1)
