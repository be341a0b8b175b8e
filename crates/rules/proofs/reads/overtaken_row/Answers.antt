use Rattle.desk.specs.Laws.Notes.{noted_size}
use Rattle.rules.specs.Laws.Reads.{overtaken_by}
use Rattle.rules.proofs.reads.overtaken_row.Goals as goal

pub returns : goal.returns
returns c = λ k h l. rw (
  c.and.ensures,
  c.join_in.ensures,
  c.column-a.ensures,
  c.only_if.ensures,
  c.is_empty.ensures,
  c.and-b.ensures,
  c.row-2.ensures,
  c.row.ensures,
) (overtaken_by _ _ (noted_size _ _ _ h) _ h _ k _ _ l)
