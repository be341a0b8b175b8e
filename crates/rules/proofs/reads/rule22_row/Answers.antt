use Rattle.desk.specs.Laws.Notes.{noted_size}
use Rattle.rules.specs.Laws.Reads.{rule22_by}
use Rattle.rules.proofs.reads.rule22_row.Goals as goal

pub returns : goal.returns
returns c = λ h l. rw (
  c.minus-2.ensures,
  c.minus.ensures,
  c.join-later.ensures,
  c.only_if.ensures,
  c.is_empty.ensures,
  c.row-mo.ensures,
  c.and-b.ensures,
  c.row-2.ensures,
  c.row.ensures,
) (rule22_by _ _ (noted_size _ _ _ h) _)
