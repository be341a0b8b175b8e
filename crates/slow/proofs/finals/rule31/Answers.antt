use Rattle.model.specs.Model.{rule31}
use Rattle.slow.proofs.finals.rule31.Goals as goal

pub returns : goal.returns
unfolding rule31
returns c = rw (c.differ.ensures, c.immediate.ensures, c.edge.ensures, c.is.ensures)
