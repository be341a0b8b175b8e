use Rattle.model.specs.Judge.{loose}
use Rattle.slow.proofs.serial.loose.Goals as goal

pub returns : goal.returns
unfolding loose
returns c = rw (c.edge-4.ensures, c.edge-3.ensures, c.is-4.ensures, c.is-3.ensures, c.edge-2.ensures, c.edge.ensures, c.is-2.ensures, c.is.ensures)
