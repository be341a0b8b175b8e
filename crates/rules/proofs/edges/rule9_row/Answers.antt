use Rattle.model.specs.Model.{rule9}
use Rattle.rules.proofs.edges.rule9_row.Goals as goal

pub returns : goal.returns
unfolding rule9
returns c = λ h l. rw (c.one_row.ensures, c.row.ensures)
