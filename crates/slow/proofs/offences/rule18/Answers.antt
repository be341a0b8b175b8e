use Rattle.model.specs.Model.{rule18}
use Rattle.slow.proofs.offences.rule18.Goals as goal

pub returns : goal.returns
unfolding rule18
returns c = rw (c.other_source.ensures, c.edge.ensures)
