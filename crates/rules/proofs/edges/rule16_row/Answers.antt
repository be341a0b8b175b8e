use Rattle.model.specs.Model.{rule16}
use Rattle.rules.proofs.edges.rule16_row.Goals as goal

pub returns : goal.returns
unfolding rule16
returns c = λ h l. rw (
  c.minus.ensures,
  c.row.ensures,
  c.and.ensures,
  c.sb_fences_sb_row.ensures,
  c.writes_of_row.ensures,
  c.row-fences.ensures,
)
