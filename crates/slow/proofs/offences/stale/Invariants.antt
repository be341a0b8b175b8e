use Prim.Native.Nat.{ℕ, ◌-◌, ◌≤◌}
use mathlib.Core.Bool.{Bool, false, not, ◌&&◌}
use mathlib.Core.List.{List}
use mathlib.Core.Path.{◌≡◌}
use Rattle.rows.specs.Sets.{Set, any}
use Rattle.rows.specs.Numbers.{held}
use Rattle.model.specs.Model.{Rf, up_to}
use Rattle.slow.proofs.offences.stale.Given as goal

abbrev pub f2 : List ℕ → ℕ → ℕ → ℕ → ℕ → Set
f2 t n a b x y = Rf n (held t) y b && not (up_to n (held t) x y)

abbrev pub g1 : List ℕ → ℕ → ℕ → ℕ → ℕ → Bool
g1 t n a b x = Rf n (held t) x a

abbrev pub f1 : List ℕ → ℕ → ℕ → ℕ → Set
f1 t n a b x = g1 t n a b x && any n (f2 t n a b x)

abbrev pub invariant-loop-y : goal.invariant-loop-y
invariant-loop-y l = (l.y ≤ l.t.n) × (any l.y (f2 l.t.numbers.now l.t.n l.a l.b l.x) ≡ false)

abbrev pub decreases-loop-y : goal.decreases-loop-y
decreases-loop-y l = l.t.n - l.y

abbrev pub invariant-loop-x : goal.invariant-loop-x
invariant-loop-x l = (l.x ≤ l.t.n) × (any l.x (f1 l.t.numbers.now l.t.n l.a l.b) ≡ false)

abbrev pub decreases-loop-x : goal.decreases-loop-x
decreases-loop-x l = l.t.n - l.x
