use Rattle.desk.specs.Laws.Notes.{noted_size}
use Rattle.rules.specs.Laws.Finals.{rule31_by}
use Rattle.rules.proofs.finals.rule31_row.Goals as goal

pub returns : goal.returns
returns c = λ h l. rw (c.and.ensures, c.differ_row.ensures, c.minus.ensures, c.join-later.ensures, c.only_if.ensures, c.is_empty.ensures, c.and-b.ensures, c.or.ensures, c.row.ensures, c.row-mo.ensures, c.row-rf.ensures) (rule31_by _ _ (noted_size _ _ _ h) _)
