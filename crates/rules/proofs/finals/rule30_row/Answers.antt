use Rattle.model.specs.Model.{rule30}
use Rattle.rules.proofs.finals.rule30_row.Goals as goal

pub returns : goal.returns
unfolding rule30
returns c = λ h l. rw (c.column.ensures, c.and-r.ensures, c.row-2.ensures, c.row.ensures)
