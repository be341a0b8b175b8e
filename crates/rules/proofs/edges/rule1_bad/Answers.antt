use Rattle.model.specs.Model.{rule1}
use Rattle.rules.proofs.edges.rule1_bad.Goals as goal

pub returns : goal.returns
unfolding rule1
returns c = λ h. rw (
  c.or.ensures,
  c.minus-stores.ensures,
  c.row-4.ensures,
  c.row-3.ensures,
  c.minus-loads.ensures,
  c.row-2.ensures,
  c.row.ensures,
)
