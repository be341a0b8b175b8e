use Prim.Native.Nat.{ℕ, ◌-◌, ◌≤◌}
use mathlib.Core.Bool.{Bool, false, ◌&&◌}
use mathlib.Core.List.{List}
use mathlib.Core.Path.{◌≡◌}
use Rattle.rows.specs.Sets.{Set, any}
use Rattle.rows.specs.Numbers.{held}
use Rattle.model.specs.Model.{Sb, write, atomic, same_place}
use Rattle.slow.specs.Searches.{heard}
use Rattle.slow.proofs.derived.sw_fence_atomic.Given as goal

abbrev pub g1 : List ℕ → ℕ → ℕ → ℕ → ℕ → Bool
g1 t n a b x = atomic n (held t) x && write n (held t) x && same_place n (held t) x b && Sb n (held t) a x

abbrev pub q : List ℕ → ℕ → ℕ → ℕ → ℕ → Bool
q t n a b x = heard n (held t) x b

abbrev pub f1 : List ℕ → ℕ → ℕ → ℕ → Set
f1 t n a b x = g1 t n a b x && q t n a b x

abbrev pub invariant-loop-x : goal.invariant-loop-x
invariant-loop-x l = (l.x ≤ l.t.n) × (any l.x (f1 l.t.numbers.now l.t.n l.a l.b) ≡ false)

abbrev pub decreases-loop-x : goal.decreases-loop-x
decreases-loop-x l = l.t.n - l.x
