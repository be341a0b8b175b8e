use Rattle.rows.proofs.Laws.Closure.{Closing}
use Rattle.rows.specs.Numbers.{held}
use Rattle.rows.proofs.close.Given as goal

abbrev pub invariant-loop : goal.invariant-loop
invariant-loop l = Closing l.n (held l.initial.part 0) (held l.part 0) l.counter
