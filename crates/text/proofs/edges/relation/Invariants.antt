use Rattle.rows.specs.Numbers.{held}
use Rattle.text.specs.Parts.{bars_of}
use Rattle.text.specs.Laws.Rows.{Storing}
use Rattle.text.proofs.edges.relation.Given as goal

-- `edges::relation`: the rows below a are stored, and next stands after them. Assumes nothing.
abbrev pub invariant-loop-a : goal.invariant-loop-a
invariant-loop-a l =
    Storing l.s l.n (bars_of l.list) l.k l.at (held l.initial.store) l.a l.next (held l.store)
