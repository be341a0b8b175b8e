use Rattle.desk.specs.Laws.Notes.{noted_size}
use Rattle.rules.specs.Laws.Reads.{rule21_by}
use Rattle.rules.proofs.reads.rule21_row.Goals as goal

pub returns : goal.returns
returns c = λ h l. rw (
  c.leading.ensures,
  c.join-y.ensures,
  c.only_if-x.ensures,
  c.is_empty.ensures,
  c.note.ensures,
  c.only_if-b.ensures,
  c.and.ensures,
  c.row-3.ensures,
  c.row-2.ensures,
  c.contains-here.ensures,
  c.row.ensures,
) (rule21_by _ _ (noted_size _ _ _ h) _ h _ l)
