use Prim.Native.Nat.{ℕ, ◌-◌, ◌≤◌}
use mathlib.Core.Bool.{Bool, false, ◌&&◌}
use mathlib.Core.List.{List}
use mathlib.Core.Path.{◌≡◌}
use Rattle.rows.specs.Sets.{Set, any}
use Rattle.rows.specs.Numbers.{held}
use Rattle.model.specs.Model.{Vse}
use Rattle.slow.specs.Searches.{sees}
use Rattle.slow.proofs.derived.seen.Given as goal

abbrev pub g1 : List ℕ → ℕ → ℕ → ℕ → ℕ → Bool
g1 t n c b v = Vse n (held t) v b

abbrev pub q : List ℕ → ℕ → ℕ → ℕ → ℕ → Bool
q t n c b v = sees n (held t) v c b

abbrev pub f1 : List ℕ → ℕ → ℕ → ℕ → Set
f1 t n c b v = g1 t n c b v && q t n c b v

abbrev pub invariant-loop-v : goal.invariant-loop-v
invariant-loop-v l = (l.v ≤ l.t.n) × (any l.v (f1 l.t.numbers.now l.t.n l.c l.b) ≡ false)

abbrev pub decreases-loop-v : goal.decreases-loop-v
decreases-loop-v l = l.t.n - l.v
