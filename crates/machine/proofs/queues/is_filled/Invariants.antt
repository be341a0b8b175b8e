use Rattle.std.specs.Prelude.{false}
use Rattle.std.proofs.Common.{◌≡◌}
use Rattle.rows.specs.Numbers.{has}
use Rattle.rows.specs.Sets.{any}
use Rattle.machine.specs.Code.{waits}
use Rattle.machine.proofs.queues.is_filled.Given as goal

-- none waits before a
abbrev pub invariant-loop-a : goal.invariant-loop-a
invariant-loop-a l = any l.a (waits l.acts (has l.waiting) l.thread) ≡ false
