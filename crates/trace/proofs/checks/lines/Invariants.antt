use Rattle.trace.specs.Laws.Walks.{Going}
use Rattle.trace.proofs.checks.lines.Given as goal

-- `checks::lines`: the lines passed so far, and those from q on decide. Assumes nothing.
abbrev pub invariant-loop : goal.invariant-loop
invariant-loop l = Going l.s l.at l.counter l.q
