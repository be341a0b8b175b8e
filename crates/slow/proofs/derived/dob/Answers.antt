use Rattle.slow.specs.Laws.Relations.{dob_too}
use mathlib.Core.Path.{◌≡◌, refl, sym}
use native.Mathlib.Omega.{arith}
use Rattle.rows.specs.Sets.{any}
use Rattle.rows.specs.Numbers.{held}
use Rattle.rows.specs.Laws.Truth.{and_both}
use Rattle.rows.proofs.Laws.Quantifiers.{any_in}
use Rattle.slow.specs.Laws.Loops.{none_more, guard_no, inner_no}
use Rattle.slow.proofs.derived.dob.Invariants.{f1, g1, q}
use Rattle.slow.proofs.derived.dob.Goals as goal
use Rattle.slow.proofs.derived.dob.Goals.{else-is-d-via-then-is-d+else-released, else-is-d-via-else-is-d}

pub loop-b-init : goal.loop-b-init
unfolding any
loop-b-init c = (omega arith, refl)

pub returns-then-released : goal.returns-then-released
returns-then-released c =
    let s = c.args in
    let l1 = c.loop-b in
    let both = dob_too s.t.n (held s.t.numbers.now) s.a s.d (sym (any_in s.t.n (f1 s.t.numbers.now s.t.n s.a s.d) l1.b (omega arith) (and_both {a = g1 s.t.numbers.now s.t.n s.a s.d l1.b} (rw (c.edge.ensures, c.is-in-loop-b.ensures, c.is.ensures) at c.if-is-d.true) (rw c.released.ensures at c.if-released.true)))) in
    record { value = both.0; value_2 = both.1 }

pub loop-b-preserved : goal.loop-b-preserved
loop-b-preserved c =
    let s = c.args in
    let l1 = c.loop-b in
    (omega arith, none_more (f1 s.t.numbers.now s.t.n s.a s.d) l1.b l1.invariant.1 (elim c.else-is-d.branch [ else-is-d-via-then-is-d+else-released w ↦ inner_no (g1 s.t.numbers.now s.t.n s.a s.d l1.b) _ (rw w.released.ensures at w.if-released.false) | else-is-d-via-else-is-d w ↦ guard_no _ (q s.t.numbers.now s.t.n s.a s.d l1.b) (rw (c.edge.ensures, c.is-in-loop-b.ensures, c.is.ensures) at w.if-is-d.false) ]))

pub returns : goal.returns
returns c =
    let s = c.args in
    let l1 = c.loop-b in
    let e : l1.b ≡ s.t.n = omega arith in
    let both = dob_too s.t.n (held s.t.numbers.now) s.a s.d (sym (rw e at l1.invariant.1)) in
    record { value = both.0; value_2 = both.1 }
