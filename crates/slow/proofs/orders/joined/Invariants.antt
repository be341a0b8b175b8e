use Prim.Native.Nat.{ℕ, ◌-◌, ◌≤◌}
use mathlib.Core.Bool.{false, ◌&&◌}
use mathlib.Core.List.{List}
use mathlib.Core.Path.{◌≡◌}
use Rattle.rows.specs.Sets.{Set, any}
use Rattle.rows.specs.Numbers.{held}
use Rattle.slow.specs.Searches.{relation}
use Rattle.slow.proofs.orders.joined.Given as goal

abbrev pub f1 : List ℕ → ℕ → ℕ → ℕ → ℕ → ℕ → Set
f1 t n k l a b z = relation n (held t) k a z && relation n (held t) l z b

abbrev pub invariant-loop-z : goal.invariant-loop-z
invariant-loop-z l = (l.z ≤ l.t.n) × (any l.z (f1 l.t.numbers.now l.t.n l.k l.l l.a l.b) ≡ false)

abbrev pub decreases-loop-z : goal.decreases-loop-z
decreases-loop-z l = l.t.n - l.z
