use Prim.Native.Nat.{◌-◌, ◌≤◌}
use mathlib.Core.Bool.{false}
use mathlib.Core.Path.{◌≡◌}
use Rattle.rows.specs.Sets.{any}
use Rattle.rows.specs.Numbers.{held}
use Rattle.model.specs.Model.{between}
use Rattle.slow.specs.Searches.{relation}
use Rattle.slow.proofs.orders.middle.Given as goal

abbrev pub invariant-loop-z : goal.invariant-loop-z
invariant-loop-z l = (l.z ≤ l.t.n) × (any l.z (between l.t.n (held l.t.numbers.now) (relation l.t.n (held l.t.numbers.now) l.k) l.a l.b) ≡ false)

abbrev pub decreases-loop-z : goal.decreases-loop-z
decreases-loop-z l = l.t.n - l.z
