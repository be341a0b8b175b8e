use Prim.Native.Nat.{ℕ, ◌-◌, ◌≤◌}
use mathlib.Core.Bool.{Bool, false, ◌&&◌, ◌||◌}
use mathlib.Core.List.{List}
use mathlib.Core.Path.{◌≡◌}
use lib.Dec.{eqb}
use Rattle.rows.specs.Sets.{Set, any}
use Rattle.rows.specs.Numbers.{held}
use Rattle.model.specs.Model.{Cad, release, consume}
use Rattle.slow.specs.Searches.{released}
use Rattle.slow.proofs.derived.dob.Given as goal

abbrev pub g1 : List ℕ → ℕ → ℕ → ℕ → ℕ → Bool
g1 t n a d b = release n (held t) a && consume n (held t) b && (eqb d b || Cad n (held t) b d)

abbrev pub q : List ℕ → ℕ → ℕ → ℕ → ℕ → Bool
q t n a d b = released n (held t) a b

abbrev pub f1 : List ℕ → ℕ → ℕ → ℕ → Set
f1 t n a d b = g1 t n a d b && q t n a d b

abbrev pub invariant-loop-b : goal.invariant-loop-b
invariant-loop-b l = (l.b ≤ l.t.n) × (any l.b (f1 l.t.numbers.now l.t.n l.a l.d) ≡ false)

abbrev pub decreases-loop-b : goal.decreases-loop-b
decreases-loop-b l = l.t.n - l.b
