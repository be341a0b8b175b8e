use Rattle.model.specs.Model.{rule12}
use Rattle.slow.proofs.offences.rule12.Goals as goal

pub returns : goal.returns
unfolding rule12
returns c = rw (c.edge-2.ensures, c.edge.ensures, c.sc_pair.ensures)
