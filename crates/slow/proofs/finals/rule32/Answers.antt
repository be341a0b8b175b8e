use Rattle.model.specs.Model.{rule32}
use Rattle.slow.proofs.finals.rule32.Goals as goal

pub returns : goal.returns
unfolding rule32
returns c = rw (c.overwritten.ensures, c.is-2.ensures, c.is.ensures, c.edge.ensures, c.rule23.ensures)
