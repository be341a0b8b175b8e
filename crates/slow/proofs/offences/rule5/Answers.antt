use Rattle.model.specs.Model.{rule5}
use Rattle.slow.proofs.offences.rule5.Goals as goal

pub returns : goal.returns
unfolding rule5
returns c = rw (c.edge-2.ensures, c.edge.ensures)
