use Rattle.model.specs.Model.{rule30}
use Rattle.slow.proofs.finals.rule30.Goals as goal

pub returns : goal.returns
unfolding rule30
returns c = rw (c.edge-2.ensures, c.is.ensures, c.edge.ensures)
