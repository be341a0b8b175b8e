use mathlib.Core.Path.{◌≡◌}
use lib.Dec.{ltb}
use lib.Seq.{sets}
use Rattle.rows.specs.Numbers.{has, held}
use Rattle.model.specs.Judge.{precedes, greedy}
use Rattle.order.specs.Steps.{onto}
use Rattle.order.proofs.Steps.{rest}
use Rattle.order.proofs.serial.Given as goal

abbrev pub invariant-loop-i : goal.invariant-loop-i
invariant-loop-i l = sets l.order l.i (rest l.n (precedes l.n (held l.d)) l.i (has l.left)) ≡ onto (greedy l.n (precedes l.n (held l.d)) l.n (λ a. ltb a l.n)) l.initial.order
