use Rattle.model.specs.Model.{rule4}
use Rattle.slow.proofs.offences.rule4.Goals as goal

pub returns : goal.returns
unfolding rule4
returns c = rw (c.strict-3.ensures, c.strict-2.ensures, c.strict.ensures)
