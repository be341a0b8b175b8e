use Prim.Native.Nat.{ℕ, ◌-◌, ◌≤◌}
use mathlib.Core.Bool.{false, ◌&&◌}
use mathlib.Core.List.{List}
use mathlib.Core.Path.{◌≡◌}
use Rattle.rows.specs.Sets.{Set, any}
use Rattle.rows.specs.Numbers.{held}
use Rattle.model.specs.Model.{lock, same_thread, immediate, mutex_sc}
use Rattle.slow.proofs.offences.locked.Given as goal

abbrev pub f1 : List ℕ → ℕ → ℕ → Set
f1 t n a p = immediate n (held t) (mutex_sc n (held t)) p a && lock n (held t) p && same_thread n (held t) p a

abbrev pub invariant-loop-p : goal.invariant-loop-p
invariant-loop-p l = (l.p ≤ l.t.n) × (any l.p (f1 l.t.numbers.now l.t.n l.a) ≡ false)

abbrev pub decreases-loop-p : goal.decreases-loop-p
decreases-loop-p l = l.t.n - l.p
