use Prim.Native.Nat.{ℕ, ◌-◌, ◌≤◌}
use mathlib.Core.Bool.{Bool, false, ◌&&◌}
use mathlib.Core.List.{List}
use mathlib.Core.Path.{◌≡◌}
use Rattle.rows.specs.Sets.{Set, any}
use Rattle.rows.specs.Numbers.{held}
use Rattle.model.specs.Model.{Sb, r}
use Rattle.slow.proofs.derived.sb_then_r.Given as goal

abbrev pub g1 : List ℕ → ℕ → ℕ → ℕ → ℕ → Bool
g1 t n a b z = Sb n (held t) a z

abbrev pub q : List ℕ → ℕ → ℕ → ℕ → ℕ → Bool
q t n a b z = r n (held t) z b

abbrev pub f1 : List ℕ → ℕ → ℕ → ℕ → Set
f1 t n a b z = g1 t n a b z && q t n a b z

abbrev pub invariant-loop-z : goal.invariant-loop-z
invariant-loop-z l = (l.z ≤ l.t.n) × (any l.z (f1 l.t.numbers.now l.t.n l.a l.b) ≡ false)

abbrev pub decreases-loop-z : goal.decreases-loop-z
decreases-loop-z l = l.t.n - l.z
