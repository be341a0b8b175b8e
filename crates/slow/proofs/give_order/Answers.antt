use mathlib.Core.Path.{refl}
use Rattle.slow.proofs.give_order.Goals as goal

pub returns-then-due : goal.returns-then-due
returns-then-due c = rw c.if-due.true (record { value = refl; order_after = c.serial.ensures })
