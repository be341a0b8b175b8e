use Prim.Native.Nat.{◌-◌}
use mathlib.Core.Path.{◌≡◌}
use lib.ListN.{length}
use Rattle.rows.specs.Numbers.{held}
use Rattle.model.specs.Laws.Entered.{Entering, Kept}
use Rattle.slow.proofs.fill.derive.Given as goal

abbrev pub invariant-loop-k : goal.invariant-loop-k
invariant-loop-k l = (length l.store ≡ length l.initial.store) × ((length l.t ≡ length l.initial.t) × (Entering l.n (held l.initial.t) (held l.t) l.k × Kept (held l.t) (held l.initial.store) (held l.store) l.k))

abbrev pub decreases-loop-k : goal.decreases-loop-k
decreases-loop-k l = 18 - l.k
