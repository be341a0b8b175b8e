use Rattle.rows.specs.Members.{members_left}
use Rattle.rows.specs.Numbers.{held}
use Rattle.order.proofs.Steps.{Asking}
use Rattle.order.proofs.is_sequenced.Given as goal

-- Those plain accesses that are left decide.
abbrev pub invariant-loop-a : goal.invariant-loop-a
invariant-loop-a l = Asking l.n (held l.d) (members_left l.a-iterator)
