use mathlib.Core.Path.{◌≡◌}
use Rattle.rows.specs.Members.{members_left}
use Rattle.rows.specs.Numbers.{held}
use Rattle.model.specs.declared.Verdict.TheVariants.{Passed}
use Rattle.model.specs.Judge.{rule}
use Rattle.rules.specs.Laws.Scan.{Clear, Scanning}
use Rattle.rules.proofs.scan.Given as goal

-- The outer loop: no rule of the edition below this one offends. The inner one: no row of this rule before the suspects left leads anywhere.
abbrev pub invariant-loop-a : goal.invariant-loop-a
invariant-loop-a l = (l.verdict ≡ Passed) × Scanning l.n (rule l.n (held l.d) l.rule) (members_left l.a-iterator)

abbrev pub invariant-scan : goal.invariant-scan
invariant-scan l = (l.verdict ≡ Passed) × Clear l.edition l.n (held l.d) l.rule
