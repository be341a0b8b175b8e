use Rattle.rows.specs.Numbers.{held}
use Rattle.machine.specs.Code.{state_of}
use Rattle.machine.specs.Laws.Rows.{Putting}
use Rattle.machine.proofs.candidates.put_relation.Given as goal

-- `candidates::put_relation`: relation k's rows below a are the candidate's, and the other relations as they were. Assumes nothing.
abbrev pub invariant-loop-a : goal.invariant-loop-a
invariant-loop-a l = Putting (state_of l.m) l.k (held l.initial.store) l.a (held l.store)
