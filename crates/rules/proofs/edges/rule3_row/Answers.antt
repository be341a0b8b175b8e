use Rattle.model.specs.Model.{rule3}
use Rattle.rules.proofs.edges.rule3_row.Goals as goal

pub returns : goal.returns
unfolding rule3
returns c = λ h l. rw (
  c.minus.ensures,
  c.row-4.ensures,
  c.or-2.ensures,
  c.row-3.ensures,
  c.or.ensures,
  c.row-2.ensures,
  c.row.ensures,
)
