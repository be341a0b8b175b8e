use Rattle.rows.specs.Laws.Closure.{Round}
use Rattle.rows.specs.Numbers.{held}
use Rattle.rows.proofs.close_round.Given as goal

abbrev pub invariant-loop-a : goal.invariant-loop-a
invariant-loop-a l = Round l.n (held l.initial.part 0) (held l.part 0) l.a l.more
