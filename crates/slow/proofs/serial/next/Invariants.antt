use Prim.Native.Nat.{◌-◌, ◌≤◌}
use mathlib.Core.Bool.{false, not, ◌&&◌}
use mathlib.Core.Path.{◌≡◌}
use Rattle.rows.specs.Sets.{any}
use Rattle.rows.specs.Numbers.{held}
use Rattle.slow.specs.Searches.{left, preceded}
use Rattle.slow.proofs.serial.next.Given as goal

abbrev pub invariant-loop-a : goal.invariant-loop-a
invariant-loop-a l = (l.a ≤ l.t.n) × (any l.a (λ x. left l.t.n (held l.given 0 0) x && not (preceded l.t.n (held l.t.numbers.now) (held l.given 0 0) x)) ≡ false)

abbrev pub decreases-loop-a : goal.decreases-loop-a
decreases-loop-a l = l.t.n - l.a
