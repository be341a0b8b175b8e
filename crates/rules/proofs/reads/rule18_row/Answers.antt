use Rattle.desk.specs.Laws.Notes.{noted_size}
use Rattle.rules.specs.Laws.Reads.{rule18_by}
use Rattle.rules.proofs.reads.rule18_row.Goals as goal

pub returns : goal.returns
returns c = λ h l. rw (
  c.leading.ensures,
  c.row.ensures,
  c.without-others.ensures,
  c.full.ensures,
) (rule18_by _ _ (noted_size _ _ _ h) _ h _)
