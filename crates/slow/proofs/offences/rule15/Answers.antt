use Rattle.model.specs.Model.{rule15}
use Rattle.slow.proofs.offences.rule15.Goals as goal

pub returns : goal.returns
unfolding rule15
returns c = rw (c.edge-2.ensures, c.edge.ensures, c.writes_of.ensures)
