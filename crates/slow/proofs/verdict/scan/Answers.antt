-- No rule of the edition below this one offends; of this rule no row before this one leads anywhere; and in this row no column before this one.
use Prim.Native.Nat.{ℕ}
use mathlib.Core.Bool.{false}
use mathlib.Core.Path.{◌≡◌, refl, sym, ap, ◌∙◌}
use native.Mathlib.Omega.{arith}
use borrow.Author.Count.{below_more}
use Rattle.rows.specs.Sets.{any}
use Rattle.rows.specs.Numbers.{held}
use Rattle.rows.specs.Laws.Truth.{not_both}
use Rattle.rows.proofs.Laws.Quantifiers.{any_no}
use Rattle.model.specs.Limits.{rules_end}
use Rattle.model.specs.Judge.{rule}
use Rattle.model.specs.declared.Verdict.TheVariants.{Broken}
use Rattle.model.proofs.Laws.Scans.{clear_none, clear_more, scan_done, scan_found}
use Rattle.slow.specs.Laws.Loops.{none_more}
use Rattle.slow.proofs.verdict.scan.Goals as goal
use Rattle.slow.proofs.verdict.scan.Goals.{then-is_in_force+else-loop-a-test, else-is_in_force}

pub scan-init : goal.scan-init
scan-init c = let s = c.args in (omega arith, refl, clear_none s.edition s.t.n (held s.t.numbers.now))

pub loop-a-init : goal.loop-a-init
loop-a-init c = (omega arith, c.scan.invariant.1, λ x l. absurd (omega arith))

pub loop-b-init : goal.loop-b-init
unfolding any
loop-b-init c = (omega arith, c.loop-a.invariant.1, refl)

pub loop-b-preserved : goal.loop-b-preserved
loop-b-preserved c =
    let s = c.args in
    let k = c.scan in
    let l = c.loop-a in
    let m = c.loop-b in
    (omega arith, m.invariant.1, none_more (rule s.t.n (held s.t.numbers.now) k.rule l.a) m.b m.invariant.2 (rw c.offends.ensures at c.if-offends.false))

pub loop-a-preserved : goal.loop-a-preserved
loop-a-preserved c =
    let s = c.args in
    let k = c.scan in
    let l = c.loop-a in
    let m = c.loop-b in
    let e : m.b ≡ s.t.n = omega arith in
    (omega arith, m.invariant.1, below_more (λ (x : ℕ). any s.t.n (rule s.t.n (held s.t.numbers.now) k.rule x) ≡ false) l.a l.invariant.2 (rw e at m.invariant.2))

-- every row of the rule was blank, or it is not in force
pub scan-preserved : goal.scan-preserved
scan-preserved c =
    let s = c.args in
    let k = c.scan in
    let more = clear_more s.edition s.t.n (held s.t.numbers.now) k.rule k.invariant.2 in
    elim c.if-is_in_force.branch [
      | then-is_in_force+else-loop-a-test w ↦ (omega arith, w.found-is ∙ w.loop-a.invariant.1, more λ _ x l. w.loop-a.invariant.2 x (omega (arith, l, w.loop-a-test.false, w.loop-a.invariant.0)))
      | else-is_in_force w ↦ (omega arith, w.found-is ∙ k.invariant.1, more λ on. not_both on (sym c.is_in_force.ensures ∙ w.if-is_in_force.false))
    ]

pub returns-after-scan : goal.returns-after-scan
returns-after-scan c =
    let s = c.args in
    let k = c.scan in
    let e : k.rule ≡ rules_end = omega arith in
    k.invariant.1 ∙ scan_done s.edition s.t.n (held s.t.numbers.now) (rw e at k.invariant.2)

pub returns-then-offends : goal.returns-then-offends
returns-then-offends c =
    let s = c.args in
    let k = c.scan in
    let force = sym c.is_in_force.ensures ∙ c.if-is_in_force.true in
    let l = c.loop-a in
    let m = c.loop-b in
    let hit = sym c.offends.ensures ∙ c.if-offends.true in
    ap (Broken k.rule l.a m.b) c.middle_at-middle.ensures
    ∙ scan_found s.edition s.t.n (held s.t.numbers.now) k.rule l.a m.b (omega arith) force (omega arith) (omega arith) hit (any_no m.b _ m.invariant.2) k.invariant.2 l.invariant.2
