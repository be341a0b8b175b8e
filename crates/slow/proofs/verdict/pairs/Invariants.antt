use Prim.Native.Nat.{ℕ, ◌-◌, ◌≤◌}
use mathlib.Core.Bool.{◌&&◌}
use mathlib.Core.List.{List}
use mathlib.Core.Path.{◌≡◌}
use lib.Dec.{ltb}
use Rattle.rows.specs.Sets.{count, sum}
use Rattle.rows.specs.Numbers.{held}
use Rattle.slow.proofs.verdict.pairs.Given as goal

abbrev pub counted : List ℕ → ℕ → ℕ → ℕ → ℕ
counted t n k a = count n (λ b. ltb a b && held t k a b)

abbrev pub invariant-loop-a : goal.invariant-loop-a
invariant-loop-a l = (l.a ≤ l.t.n) × (l.total ≡ sum l.a (counted l.t.numbers.now l.t.n l.k))

abbrev pub decreases-loop-a : goal.decreases-loop-a
decreases-loop-a l = l.t.n - l.a
