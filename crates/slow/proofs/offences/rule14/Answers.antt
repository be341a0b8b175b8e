use Rattle.model.specs.Model.{rule14}
use Rattle.slow.proofs.offences.rule14.Goals as goal

pub returns : goal.returns
unfolding rule14
returns c = rw (c.total.ensures, c.writes_of.ensures)
