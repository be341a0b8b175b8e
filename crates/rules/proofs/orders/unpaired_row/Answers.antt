use Rattle.rules.specs.Laws.Orders.{unpaired_none}
use Rattle.rows.specs.Numbers.{has}
use borrow.Author.Tests.{not-true}
use mathlib.Core.Path.{sym, ◌∙◌}
use Rattle.rules.proofs.orders.unpaired_row.Goals as goal

pub returns-then-is_empty : goal.returns-then-is_empty
returns-then-is_empty c = let s = c.args in
    let empty = not-true _ (sym c.is_empty.ensures ∙ c.if-is_empty.true) in
    λ n small. unpaired_none n (has s.apart) _ small empty

pub returns : goal.returns
returns c = λ n small. rw (c.minus.ensures, c.leading.ensures)
