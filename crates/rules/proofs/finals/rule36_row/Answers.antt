use borrow.Author.Tests.{lt-ltb, le-ltb}
use mathlib.Core.Bool.{true, false}
use mathlib.Core.Path.{ap, ◌∙◌}
use Rattle.rows.specs.Sets.{least}
use Rattle.rows.specs.Numbers.{size}
use Rattle.desk.specs.Laws.Notes.{noted_size}
use Rattle.rules.specs.Laws.Finals.{rule36_by_lem}
use Rattle.rules.proofs.finals.rule36_row.Goals as goal

pub returns-then-w-desk : goal.returns-then-w-desk
returns-then-w-desk c =
    let lw = c.if-w-desk.true in
    λ settled h l. rw (c.and.ensures, c.join.ensures, c.earlier_row.ensures settled lw, c.row.ensures)
    (rule36_by_lem _ _ (noted_size _ _ _ h) _ h settled _ l _ (c.lowest-w.ensures ∙ ap (least size) c.note.ensures) true (lt-ltb _ _ lw))

pub returns : goal.returns
returns c =
    λ settled h l. rw c.empty.ensures
    (rule36_by_lem _ _ (noted_size _ _ _ h) _ h settled _ l _ (c.lowest-w.ensures ∙ ap (least size) c.note.ensures) false (le-ltb _ _ c.if-w-desk.false))
