use Prim.Native.Nat.{ℕ, ◌-◌, ◌≤◌}
use mathlib.Core.Bool.{false, not, ◌&&◌}
use mathlib.Core.List.{List}
use mathlib.Core.Path.{◌≡◌}
use Rattle.rows.specs.Sets.{Set, any}
use Rattle.rows.specs.Numbers.{held}
use Rattle.model.specs.Model.{Mo, element}
use Rattle.slow.proofs.derived.broken.Given as goal

abbrev pub f1 : List ℕ → ℕ → ℕ → ℕ → Set
f1 t n a b c = Mo n (held t) a c && Mo n (held t) c b && not (element n (held t) a c)

abbrev pub invariant-loop-c : goal.invariant-loop-c
invariant-loop-c l = (l.c ≤ l.t.n) × (any l.c (f1 l.t.numbers.now l.t.n l.a l.b) ≡ false)

abbrev pub decreases-loop-c : goal.decreases-loop-c
decreases-loop-c l = l.t.n - l.c
