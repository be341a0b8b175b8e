use Rattle.model.specs.Model.{rule29}
use Rattle.slow.proofs.finals.rule29.Goals as goal

pub returns : goal.returns
unfolding rule29
returns c = rw (c.edge-2.ensures, c.is.ensures, c.edge.ensures)
