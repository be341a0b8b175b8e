use Rattle.model.specs.Model.{rule2}
use Rattle.rules.proofs.edges.rule2_bad.Goals as goal

pub returns : goal.returns
unfolding rule2
returns c = λ h. rw (
  c.or-3.ensures,
  c.or-2.ensures,
  c.minus-atomic.ensures,
  c.or.ensures,
  c.row-6.ensures,
  c.row-5.ensures,
  c.minus-bare.ensures,
  c.row-4.ensures,
  c.minus-mutex.ensures,
  c.row-3.ensures,
  c.or-turns.ensures,
  c.row-2.ensures,
  c.row.ensures,
  c.row-plain.ensures,
)
