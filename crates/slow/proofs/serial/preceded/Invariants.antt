use Prim.Native.Nat.{◌-◌, ◌≤◌}
use mathlib.Core.Bool.{false, ◌&&◌}
use mathlib.Core.Path.{◌≡◌}
use Rattle.rows.specs.Sets.{any}
use Rattle.rows.specs.Numbers.{held}
use Rattle.model.specs.Judge.{precedes}
use Rattle.slow.specs.Searches.{left}
use Rattle.slow.proofs.serial.preceded.Given as goal

abbrev pub invariant-loop-z : goal.invariant-loop-z
invariant-loop-z l = (l.z ≤ l.t.n) × (any l.z (λ z. left l.t.n (held l.given 0 0) z && precedes l.t.n (held l.t.numbers.now) z l.a) ≡ false)

abbrev pub decreases-loop-z : goal.decreases-loop-z
decreases-loop-z l = l.t.n - l.z
