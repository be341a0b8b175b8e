use Rattle.model.specs.Model.{rule8}
use Rattle.slow.proofs.offences.rule8.Goals as goal

pub returns : goal.returns
unfolding rule8
returns c = rw (c.is-2.ensures, c.immediate.ensures, c.is.ensures)
