use Rattle.model.specs.Model.{rule5}
use Rattle.rules.proofs.edges.rule5_row.Goals as goal

pub returns : goal.returns
unfolding rule5
returns c = λ h l. rw (c.minus.ensures, c.row-2.ensures, c.row.ensures)
