use Prim.Native.Nat.{ℕ, ◌-◌, ◌≤◌}
use mathlib.Core.Bool.{false, ◌&&◌}
use mathlib.Core.List.{List}
use mathlib.Core.Path.{◌≡◌}
use Rattle.rows.specs.Sets.{Set, any}
use Rattle.rows.specs.Numbers.{held}
use Rattle.model.specs.Model.{Rf}
use Rattle.slow.proofs.derived.heard.Given as goal

abbrev pub f1 : List ℕ → ℕ → ℕ → ℕ → Set
f1 t n x y z = (held t) 8 x z && Rf n (held t) z y

abbrev pub invariant-loop-z : goal.invariant-loop-z
invariant-loop-z l = (l.z ≤ l.t.n) × (any l.z (f1 l.t.numbers.now l.t.n l.x l.y) ≡ false)

abbrev pub decreases-loop-z : goal.decreases-loop-z
decreases-loop-z l = l.t.n - l.z
