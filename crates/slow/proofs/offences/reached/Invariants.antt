use Prim.Native.Nat.{ℕ, ◌-◌, ◌≤◌}
use mathlib.Core.Bool.{false}
use mathlib.Core.List.{List}
use mathlib.Core.Path.{◌≡◌}
use Rattle.rows.specs.Sets.{Set, any}
use Rattle.rows.specs.Numbers.{held}
use Rattle.slow.proofs.offences.reached.Given as goal

abbrev pub f1 : List ℕ → ℕ → ℕ → ℕ → Set
f1 t n k b a = (held t) k a b

abbrev pub invariant-loop-a : goal.invariant-loop-a
invariant-loop-a l = (l.a ≤ l.t.n) × (any l.a (f1 l.t.numbers.now l.t.n l.k l.b) ≡ false)

abbrev pub decreases-loop-a : goal.decreases-loop-a
decreases-loop-a l = l.t.n - l.a
