use Prim.Native.Nat.{ℕ, ◌-◌, ◌≤◌}
use mathlib.Core.Bool.{false, not, ◌&&◌}
use mathlib.Core.List.{List}
use mathlib.Core.Path.{◌≡◌}
use lib.Dec.{eqb}
use Rattle.rows.specs.Sets.{Set, any}
use Rattle.rows.specs.Numbers.{held}
use Rattle.model.specs.Model.{Rf}
use Rattle.slow.proofs.offences.other_source.Given as goal

abbrev pub f1 : List ℕ → ℕ → ℕ → ℕ → Set
f1 t n a b c = not (eqb c a) && Rf n (held t) c b

abbrev pub invariant-loop-c : goal.invariant-loop-c
invariant-loop-c l = (l.c ≤ l.t.n) × (any l.c (f1 l.t.numbers.now l.t.n l.a l.b) ≡ false)

abbrev pub decreases-loop-c : goal.decreases-loop-c
decreases-loop-c l = l.t.n - l.c
