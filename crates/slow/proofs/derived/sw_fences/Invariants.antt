use Prim.Native.Nat.{ℕ, ◌-◌, ◌≤◌}
use mathlib.Core.Bool.{Bool, false, ◌&&◌}
use mathlib.Core.List.{List}
use mathlib.Core.Path.{◌≡◌}
use Rattle.rows.specs.Sets.{Set, any}
use Rattle.rows.specs.Numbers.{held}
use Rattle.model.specs.Model.{Sb, write, atomic, same_place}
use Rattle.slow.specs.Searches.{heard}
use Rattle.slow.proofs.derived.sw_fences.Given as goal

abbrev pub g2 : List ℕ → ℕ → ℕ → ℕ → ℕ → ℕ → Bool
g2 t n a b x y = atomic n (held t) y && same_place n (held t) x y && Sb n (held t) y b

abbrev pub q : List ℕ → ℕ → ℕ → ℕ → ℕ → ℕ → Bool
q t n a b x y = heard n (held t) x y

abbrev pub f2 : List ℕ → ℕ → ℕ → ℕ → ℕ → Set
f2 t n a b x y = g2 t n a b x y && q t n a b x y

abbrev pub g1 : List ℕ → ℕ → ℕ → ℕ → ℕ → Bool
g1 t n a b x = atomic n (held t) x && write n (held t) x && Sb n (held t) a x

abbrev pub f1 : List ℕ → ℕ → ℕ → ℕ → Set
f1 t n a b x = g1 t n a b x && any n (f2 t n a b x)

abbrev pub invariant-loop-y : goal.invariant-loop-y
invariant-loop-y l = (l.y ≤ l.t.n) × (any l.y (f2 l.t.numbers.now l.t.n l.a l.b l.x) ≡ false)

abbrev pub decreases-loop-y : goal.decreases-loop-y
decreases-loop-y l = l.t.n - l.y

abbrev pub invariant-loop-x : goal.invariant-loop-x
invariant-loop-x l = (l.x ≤ l.t.n) × (any l.x (f1 l.t.numbers.now l.t.n l.a l.b) ≡ false)

abbrev pub decreases-loop-x : goal.decreases-loop-x
decreases-loop-x l = l.t.n - l.x
