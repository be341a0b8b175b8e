use Prim.Native.Nat.{ℕ, ◌-◌, ◌≤◌}
use mathlib.Core.Bool.{Bool, false, ◌&&◌}
use mathlib.Core.List.{List}
use mathlib.Core.Path.{◌≡◌}
use Rattle.rows.specs.Sets.{Set, any}
use Rattle.rows.specs.Numbers.{held}
use Rattle.model.specs.Model.{Sb, Sc, fence}
use Rattle.slow.proofs.offences.fenced.Given as goal

abbrev pub f2 : List ℕ → ℕ → ℕ → ℕ → ℕ → Set
f2 t n a b f g = fence n (held t) g && Sc n (held t) f g && Sb n (held t) g b

abbrev pub g1 : List ℕ → ℕ → ℕ → ℕ → ℕ → Bool
g1 t n a b f = Sb n (held t) a f && fence n (held t) f

abbrev pub f1 : List ℕ → ℕ → ℕ → ℕ → Set
f1 t n a b f = g1 t n a b f && any n (f2 t n a b f)

abbrev pub invariant-loop-g : goal.invariant-loop-g
invariant-loop-g l = (l.g ≤ l.t.n) × (any l.g (f2 l.t.numbers.now l.t.n l.a l.b l.f) ≡ false)

abbrev pub decreases-loop-g : goal.decreases-loop-g
decreases-loop-g l = l.t.n - l.g

abbrev pub invariant-loop-f : goal.invariant-loop-f
invariant-loop-f l = (l.f ≤ l.t.n) × (any l.f (f1 l.t.numbers.now l.t.n l.a l.b) ≡ false)

abbrev pub decreases-loop-f : goal.decreases-loop-f
decreases-loop-f l = l.t.n - l.f
