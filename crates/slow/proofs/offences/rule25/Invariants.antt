use Prim.Native.Nat.{ℕ, ◌-◌, ◌≤◌}
use mathlib.Core.Bool.{Bool, false, not, ◌&&◌}
use mathlib.Core.List.{List}
use mathlib.Core.Path.{◌≡◌}
use Rattle.rows.specs.Sets.{Set, any}
use Rattle.rows.specs.Numbers.{held}
use Rattle.model.specs.Model.{Sb, Sc, write, atomic, same_place, sc_fence, up_to}
use Rattle.slow.proofs.offences.rule25.Given as goal

abbrev pub f2 : List ℕ → ℕ → ℕ → ℕ → ℕ → Set
f2 t n y b a f = Sb n (held t) a f && sc_fence n (held t) f && Sc n (held t) f b

abbrev pub g1 : List ℕ → ℕ → ℕ → ℕ → ℕ → Bool
g1 t n y b a = atomic n (held t) a && write n (held t) a && same_place n (held t) a b && not (up_to n (held t) a y)

abbrev pub f1 : List ℕ → ℕ → ℕ → ℕ → Set
f1 t n y b a = g1 t n y b a && any n (f2 t n y b a)

abbrev pub invariant-loop-f : goal.invariant-loop-f
invariant-loop-f l = (l.f ≤ l.t.n) × (any l.f (f2 l.t.numbers.now l.t.n l.y l.b l.a) ≡ false)

abbrev pub decreases-loop-f : goal.decreases-loop-f
decreases-loop-f l = l.t.n - l.f

abbrev pub invariant-loop-a : goal.invariant-loop-a
invariant-loop-a l = (l.a ≤ l.t.n) × (any l.a (f1 l.t.numbers.now l.t.n l.y l.b) ≡ false)

abbrev pub decreases-loop-a : goal.decreases-loop-a
decreases-loop-a l = l.t.n - l.a
