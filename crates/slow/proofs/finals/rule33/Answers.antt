use Rattle.model.specs.Model.{rule33}
use Rattle.slow.proofs.finals.rule33.Goals as goal

pub returns : goal.returns
unfolding rule33
returns c = rw (c.edge-2.ensures, c.edge.ensures)
