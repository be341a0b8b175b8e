use mathlib.Core.Path.{sym, ◌∙◌}
use borrow.Author.Tests.{not-true}
use Rattle.rows.proofs.Laws.Closure.{turned_none, gains_none}
use Rattle.rows.proofs.Laws.Parts.{held_empty}
use Rattle.rows.specs.Numbers.{size, held}
use Rattle.rows.proofs.close_row.Goals as goal

pub returns-then-is_empty : goal.returns-then-is_empty
returns-then-is_empty c =
    let a = c.args in
    let part = a.part.now in
    let e = held_empty part 0 a.a (not-true _ (sym (rw c.stored-row.ensures at c.is_empty.ensures) ∙ c.if-is_empty.true)) in
    record { value = sym (gains_none size a.n (held part 0) a.a e); by_index = turned_none a.n (held part 0) a.a e }
