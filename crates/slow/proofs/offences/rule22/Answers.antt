use Rattle.model.specs.Model.{rule22}
use Rattle.slow.proofs.offences.rule22.Goals as goal

pub returns : goal.returns
unfolding rule22
returns c = rw (c.immediate.ensures, c.edge.ensures, c.is.ensures)
