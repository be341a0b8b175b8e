-- `edges::row`: no edge of a row that doesn't begin stands there. Assumes nothing.
use mathlib.Core.Path.{sym, ◌∙◌}
use Rattle.rows.specs.Numbers.{has}
use Rattle.text.specs.Laws.Rows.{no_row_stays, no_row_members}
use Rattle.text.proofs.edges.row.Goals as goal

pub returns-else-row_begins : goal.returns-else-row_begins
returns-else-row_begins c =
    let a = c.args in
    let s = a.s.now in
    let no = sym c.row_begins.ensures ∙ c.if-row_begins.false in
    (no_row_stays s (has a.bar) a.k a.a a.at no a.n, c.empty.ensures ∙ no_row_members s (has a.bar) a.k a.a a.at no a.n)
