-- The outer loop: no rule of the edition below this one offends. The inner one: no row of this rule before the suspects left leads anywhere.
use Prim.Native.Nat.{◌<◌, ◌≤◌}
use mathlib.Core.Path.{◌≡◌, refl, sym, ◌∙◌}
use native.Mathlib.Omega.{arith}
use Rattle.rows.specs.Numbers.{size, has, held}
use Rattle.rows.specs.Laws.Truth.{not_both}
use Rattle.model.specs.Limits.{rules_end}
use Rattle.model.specs.Model.{middle_at}
use Rattle.model.specs.Judge.{rule}
use Rattle.rules.specs.Promises.{Settled}
use Rattle.rules.specs.Laws.Scan.{Blank, clear_none, clear_more, clear_settled, scanning_none, scanning_next, scanning_more, scanning_done, blank_more, scan_done, scan_hit}
use Rattle.rules.proofs.scan.Goals as goal
use Rattle.rules.proofs.scan.Goals.{then-is_in_force+in-None, else-is_in_force}

pub scan-init : goal.scan-init
scan-init c = let s = c.args in (refl, clear_none s.edition s.n (held s.d.now))

pub loop-a-init : goal.loop-a-init
loop-a-init c =
    let s = c.args in
    let past : 27 ≤ c.scan.rule → Settled s.n (held s.d.now) = λ l. clear_settled s.edition s.n (held s.d.now) c.scan.rule c.requires.2 c.requires.3 c.scan.invariant.1 l in (
      c.scan.invariant.0,
      rw (c.into_iter-a-iterator.ensures.into_iter_gives, c.before-a-items.ensures)
          (scanning_none s.n (rule s.n (held s.d.now) c.scan.rule) (has c.suspects.result) (c.suspects.ensures past c.requires.1)),
    )

pub loop-a-preserved : goal.loop-a-preserved
loop-a-preserved c =
    let s = c.args in
    let ρ = held s.d.now in
    let k = c.scan.rule in
    let r = rule s.n ρ k in
    let h = c.in-Some.ensures.steps in
    let a = c.in-Some.a in
    let past : 27 ≤ k → Settled s.n ρ = λ l. clear_settled s.edition s.n ρ k c.requires.2 c.requires.3 c.scan.invariant.1 l in
    let (low, blank) : (a < s.n) × Blank s.n r a = rw h.first (scanning_next size s.n r _ c.loop-a.invariant.1 h.some) in
    let found = c.find-found.ensures past c.requires.1 low in
    let more = blank_more s.n ρ r (middle_at s.n ρ k a) a _ _ c.requires.0 found c.lowest-b.ensures (omega arith) blank in
    (c.loop-a.invariant.0, rw h.others (scanning_more size s.n r _ c.loop-a.invariant.1 h.some (rw h.first at more)))

-- the rule had no suspect left, or is not in force
pub scan-preserved : goal.scan-preserved
scan-preserved c =
    let s = c.args in
    let k = c.scan in
    let more = clear_more s.edition s.n (held s.d.now) k.rule k.invariant.1 in
    elim c.if-is_in_force.branch [
      | then-is_in_force+in-None w ↦ (w.verdict-is ∙ w.loop-a.invariant.0, more λ _. scanning_done size s.n (rule s.n (held s.d.now) k.rule) _ w.loop-a.invariant.1 c.requires.0 w.in-None.ensures.steps.0)
      | else-is_in_force w ↦ (w.verdict-is ∙ k.invariant.0, more λ on. not_both on (sym c.is_in_force.ensures ∙ w.if-is_in_force.false))
    ]

pub returns-after-scan : goal.returns-after-scan
returns-after-scan c =
    let s = c.args in
    let e : c.scan.rule ≡ rules_end = omega arith in
    c.scan.invariant.0 ∙ scan_done s.edition s.n (held s.d.now) (rw e at c.scan.invariant.1)

pub returns-then-b-n : goal.returns-then-b-n
returns-then-b-n c =
    let s = c.args in
    let ρ = held s.d.now in
    let k = c.scan.rule in
    let h = c.in-Some.ensures.steps in
    let past : 27 ≤ k → Settled s.n ρ = λ l. clear_settled s.edition s.n ρ k c.requires.2 c.requires.3 c.scan.invariant.1 l in
    let (low, blank) : (c.in-Some.a < s.n) × Blank s.n (rule s.n ρ k) c.in-Some.a = rw h.first (scanning_next size s.n (rule s.n ρ k) _ c.loop-a.invariant.1 h.some) in
    let force = sym c.is_in_force.ensures ∙ c.if-is_in_force.true in
    scan_hit s.edition s.n ρ k c.in-Some.a _ _ _ c.requires.0 c.scan-test.true force low
    (c.find-found.ensures past c.requires.1 low) c.lowest-b.ensures c.if-b-n.true (c.middle-middle.ensures c.requires.0) c.scan.invariant.1 blank
