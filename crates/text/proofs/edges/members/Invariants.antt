use Rattle.rows.specs.Numbers.{has}
use Rattle.text.specs.Laws.Rows.{Taking}
use Rattle.text.proofs.edges.members.Given as goal

-- `edges::members`: the row has those taken below b, and next stands after them. Assumes nothing.
abbrev pub invariant-loop-b : goal.invariant-loop-b
invariant-loop-b l = Taking l.s (has l.bar) l.k l.a l.at l.b l.next (has l.row)
