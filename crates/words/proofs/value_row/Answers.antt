use mathlib.Core.Path.{◌∙◌}
use Rattle.words.proofs.Book.{value_first}
use Rattle.words.proofs.value_row.Goals as goal

pub returns-then-first-a : goal.returns-then-first-a
returns-then-first-a c =
    let a = c.args in
    let first = c.first_writer-first in
    λ laid. c.load.ensures ∙ laid first.result c.if-first-a.true ∙ rw (value_first a.sheet.now a.a first.result first.ensures c.if-first-a.true)
