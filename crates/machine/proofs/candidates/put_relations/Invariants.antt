use Rattle.rows.specs.Numbers.{held}
use Rattle.machine.specs.Code.{state_of}
use Rattle.machine.specs.Laws.Rows.{Drawing}
use Rattle.machine.proofs.candidates.put_relations.Given as goal

-- `candidates::put_relations`: the relations below k are the candidate's, and the others as they were. Assumes nothing.
abbrev pub invariant-loop-k : goal.invariant-loop-k
invariant-loop-k l = Drawing (state_of l.m) (held l.initial.store) l.k (held l.store)
