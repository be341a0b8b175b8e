use Rattle.model.specs.Model.{rule15}
use Rattle.rules.proofs.edges.rule15_row.Goals as goal

pub returns : goal.returns
unfolding rule15
returns c = λ h l. rw (c.minus.ensures, c.row-2.ensures, c.and.ensures, c.row.ensures, c.writes_of_row.ensures)
