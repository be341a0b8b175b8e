use Prim.Native.Nat.{◌-◌, ◌≤◌}
use mathlib.Core.Bool.{false}
use mathlib.Core.Path.{◌≡◌}
use Rattle.rows.specs.Sets.{any}
use Rattle.rows.specs.Numbers.{held}
use Rattle.model.specs.Judge.{loose}
use Rattle.slow.proofs.serial.none_loose.Given as goal

abbrev pub invariant-loop-b : goal.invariant-loop-b
invariant-loop-b l = (l.b ≤ l.t.n) × (any l.b (loose l.t.n (held l.t.numbers.now) l.a) ≡ false)

abbrev pub decreases-loop-b : goal.decreases-loop-b
decreases-loop-b l = l.t.n - l.b

abbrev pub invariant-loop-a : goal.invariant-loop-a
invariant-loop-a l = (l.a ≤ l.t.n) × (any l.a (λ x. any l.t.n (loose l.t.n (held l.t.numbers.now) x)) ≡ false)

abbrev pub decreases-loop-a : goal.decreases-loop-a
decreases-loop-a l = l.t.n - l.a
