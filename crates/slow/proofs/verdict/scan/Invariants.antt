use Prim.Native.Nat.{◌-◌, ◌≤◌}
use mathlib.Core.Bool.{false}
use mathlib.Core.Path.{◌≡◌}
use Rattle.rows.specs.Sets.{any}
use Rattle.rows.specs.Numbers.{held}
use Rattle.model.specs.Limits.{rules_end}
use Rattle.model.specs.Judge.{rule}
use Rattle.model.specs.declared.Verdict.TheVariants.{Passed}
use Rattle.model.proofs.Laws.Scans.{Clear, Blank}
use Rattle.slow.proofs.verdict.scan.Given as goal

-- No rule of the edition below this one offends; of this rule no row before this one leads anywhere; and in this row no column before this one.
abbrev pub invariant-loop-b : goal.invariant-loop-b
invariant-loop-b l = (l.b ≤ l.t.n) × (l.found ≡ Passed) × (any l.b (rule l.t.n (held l.t.numbers.now) l.rule l.a) ≡ false)

abbrev pub decreases-loop-b : goal.decreases-loop-b
decreases-loop-b l = l.t.n - l.b

abbrev pub invariant-loop-a : goal.invariant-loop-a
invariant-loop-a l = (l.a ≤ l.t.n) × (l.found ≡ Passed) × Blank l.t.n (rule l.t.n (held l.t.numbers.now) l.rule) l.a

abbrev pub decreases-loop-a : goal.decreases-loop-a
decreases-loop-a l = l.t.n - l.a

abbrev pub invariant-scan : goal.invariant-scan
invariant-scan l = (l.rule ≤ rules_end) × (l.found ≡ Passed) × Clear l.edition l.t.n (held l.t.numbers.now) l.rule

abbrev pub decreases-scan : goal.decreases-scan
decreases-scan l = rules_end - l.rule
