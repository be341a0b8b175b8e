use Rattle.model.specs.Model.{rule6}
use Rattle.slow.proofs.offences.rule6.Goals as goal

pub returns : goal.returns
unfolding rule6
returns c = rw (c.total.ensures, c.of_mutex.ensures)
