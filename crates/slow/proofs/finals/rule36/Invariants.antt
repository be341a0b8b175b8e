use Prim.Native.Nat.{ℕ, ◌-◌, ◌≤◌}
use mathlib.Core.Bool.{Bool, false, ◌&&◌}
use mathlib.Core.List.{List}
use mathlib.Core.Path.{◌≡◌}
use Rattle.rows.specs.Sets.{Set, any}
use Rattle.rows.specs.Numbers.{held}
use Rattle.model.specs.Model.{Rf, Mo, r}
use Rattle.slow.proofs.finals.rule36.Given as goal

abbrev pub f2 : List ℕ → ℕ → ℕ → ℕ → ℕ → Set
f2 t n r s w v = Mo n (held t) v w && Rf n (held t) v s

abbrev pub g1 : List ℕ → ℕ → ℕ → ℕ → ℕ → Bool
g1 t n r s w = Rf n (held t) w r

abbrev pub f1 : List ℕ → ℕ → ℕ → ℕ → Set
f1 t n r s w = g1 t n r s w && any n (f2 t n r s w)

abbrev pub invariant-loop-v : goal.invariant-loop-v
invariant-loop-v l = (l.v ≤ l.t.n) × (any l.v (f2 l.t.numbers.now l.t.n l.r l.s l.w) ≡ false)

abbrev pub decreases-loop-v : goal.decreases-loop-v
decreases-loop-v l = l.t.n - l.v

abbrev pub invariant-loop-w : goal.invariant-loop-w
invariant-loop-w l = (l.w ≤ l.t.n) × (any l.w (f1 l.t.numbers.now l.t.n l.r l.s) ≡ false)

abbrev pub decreases-loop-w : goal.decreases-loop-w
decreases-loop-w l = l.t.n - l.w
