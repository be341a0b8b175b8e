use Rattle.model.specs.Model.{rule10}
use Rattle.slow.proofs.offences.rule10.Goals as goal

pub returns : goal.returns
unfolding rule10
returns c = rw (c.total.ensures, c.sc_pair.ensures)
