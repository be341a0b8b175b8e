use Rattle.model.specs.Model.{rule23}
use Rattle.slow.proofs.offences.rule23.Goals as goal

pub returns : goal.returns
unfolding rule23
returns c = rw (c.write_between.ensures, c.edge-2.ensures, c.is-2.ensures, c.is.ensures, c.edge.ensures)
