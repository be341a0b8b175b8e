use Rattle.model.specs.Model.{rule3}
use Rattle.slow.proofs.offences.rule3.Goals as goal

pub returns : goal.returns
unfolding rule3
returns c = rw (c.edge-4.ensures, c.edge-3.ensures, c.edge-2.ensures, c.edge.ensures)
