use Prim.Native.Nat.{ℕ, ◌-◌, ◌≤◌}
use mathlib.Core.Bool.{◌&&◌}
use mathlib.Core.List.{List}
use mathlib.Core.Path.{◌≡◌}
use lib.Dec.{ltb}
use Rattle.rows.specs.Sets.{Set, count}
use Rattle.rows.specs.Numbers.{held}
use Rattle.slow.proofs.verdict.above.Given as goal

abbrev pub counted : List ℕ → ℕ → ℕ → Set
counted t k a b = ltb a b && held t k a b

abbrev pub invariant-loop-b : goal.invariant-loop-b
invariant-loop-b l = (l.b ≤ l.t.n) × (l.total ≡ count l.b (counted l.t.numbers.now l.k l.a))

abbrev pub decreases-loop-b : goal.decreases-loop-b
decreases-loop-b l = l.t.n - l.b
