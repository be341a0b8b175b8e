use Rattle.std.proofs.Common.{◌≡◌}
use Rattle.rows.specs.Numbers.{has}
use Rattle.machine.specs.Machine.{latest}
use Rattle.machine.specs.Code.{waits_at}
use Rattle.machine.proofs.queues.newest.Given as goal

-- from a on there is none
abbrev pub invariant-loop-a : goal.invariant-loop-a
invariant-loop-a l = let f = waits_at l.acts (has l.waiting) l.thread l.place in latest l.n f ≡ latest l.a f
