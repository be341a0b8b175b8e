use Rattle.desk.specs.Laws.Notes.{noted_size}
use Rattle.rules.specs.Laws.Reads.{rule23_by}
use Rattle.rules.proofs.reads.rule23_row.Goals as goal

pub returns : goal.returns
returns c = λ h l. rw (
  c.minus-2.ensures,
  c.minus.ensures,
  c.join_in-between.ensures,
  c.only_if-writes.ensures,
  c.is_empty.ensures,
  c.and-2.ensures,
  c.row-2.ensures,
  c.row-sc.ensures,
  c.only_if-b.ensures,
  c.contains.ensures,
  c.and.ensures,
  c.row.ensures,
  c.row-strong.ensures,
) (rule23_by _ _ (noted_size _ _ _ h) _)
