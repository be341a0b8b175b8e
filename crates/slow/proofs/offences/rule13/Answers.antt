use Rattle.model.specs.Model.{rule13}
use Rattle.slow.proofs.offences.rule13.Goals as goal

pub returns : goal.returns
unfolding rule13
returns c = rw (c.writes_of.ensures, c.edge.ensures)
