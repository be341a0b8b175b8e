use Rattle.std.proofs.Common.{rules, not, ap}
use Rattle.rows.proofs.Laws.Loops.{less_left}
use Rattle.rows.specs.Laws.Truth.{some_left}
use Rattle.rows.proofs.MembersIterator.next.Goals as goal

pub returns-clause-goes : goal.returns-clause-goes
returns-clause-goes c =
    let less = less_left _ _ (some_left c.is_empty.ensures (ap not c.if-is_empty.false)) in
    search rules
