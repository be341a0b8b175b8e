use Prim.Native.Nat.{◌-◌, ◌≤◌}
use mathlib.Core.Path.{◌≡◌}
use Rattle.rows.specs.Sets.{count}
use Rattle.rows.specs.Numbers.{held}
use Rattle.model.specs.Judge.{indeterminate}
use Rattle.slow.proofs.verdict.indeterminates.Given as goal

abbrev pub invariant-loop-b : goal.invariant-loop-b
invariant-loop-b l = (l.b ≤ l.t.n) × (l.total ≡ count l.b (indeterminate l.t.n (held l.t.numbers.now)))

abbrev pub decreases-loop-b : goal.decreases-loop-b
decreases-loop-b l = l.t.n - l.b
