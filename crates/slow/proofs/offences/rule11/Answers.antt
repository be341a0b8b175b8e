use Rattle.model.specs.Model.{rule11}
use Rattle.slow.proofs.offences.rule11.Goals as goal

pub returns : goal.returns
unfolding rule11
returns c = rw (c.edge-2.ensures, c.edge.ensures, c.sc_pair.ensures)
