use Rattle.desk.specs.Laws.Notes.{noted_size}
use Rattle.rules.specs.Laws.Finals.{rule34_by}
use Rattle.rules.proofs.finals.rule34_row.Goals as goal

pub returns : goal.returns
returns c = λ h l. rw (c.and.ensures, c.join.ensures, c.only_if-later.ensures, c.is_empty.ensures, c.row.ensures, c.row-r.ensures) (rule34_by _ _ (noted_size _ _ _ h) _)
