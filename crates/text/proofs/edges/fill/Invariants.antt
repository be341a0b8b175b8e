use Rattle.rows.specs.Numbers.{held}
use Rattle.text.specs.Parts.{bars_of}
use Rattle.text.specs.Laws.Rows.{Filling}
use Rattle.text.proofs.edges.fill.Given as goal

-- `edges::fill`: the relations below k are stored, and next stands after them. Assumes nothing.
abbrev pub invariant-loop-k : goal.invariant-loop-k
invariant-loop-k l =
    Filling l.s l.n (bars_of l.list) l.at (held l.initial.store) l.k l.next (held l.store)
