use Rattle.model.specs.Model.{rule35}
use Rattle.slow.proofs.finals.rule35.Goals as goal

pub returns : goal.returns
unfolding rule35
returns c = rw (c.edge.ensures, c.joined.ensures)
