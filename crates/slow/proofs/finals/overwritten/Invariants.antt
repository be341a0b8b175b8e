use Prim.Native.Nat.{ℕ, ◌-◌, ◌≤◌}
use mathlib.Core.Bool.{false, ◌&&◌}
use mathlib.Core.List.{List}
use mathlib.Core.Path.{◌≡◌}
use Rattle.rows.specs.Sets.{Set, any}
use Rattle.rows.specs.Numbers.{held}
use Rattle.model.specs.Model.{Sc, Hb, write, same_place, r}
use Rattle.slow.proofs.finals.overwritten.Given as goal

abbrev pub f1 : List ℕ → ℕ → ℕ → ℕ → Set
f1 t n w r v = write n (held t) v && same_place n (held t) v r && Hb n (held t) w v && Sc n (held t) v r

abbrev pub invariant-loop-v : goal.invariant-loop-v
invariant-loop-v l = (l.v ≤ l.t.n) × (any l.v (f1 l.t.numbers.now l.t.n l.w l.r) ≡ false)

abbrev pub decreases-loop-v : goal.decreases-loop-v
decreases-loop-v l = l.t.n - l.v
