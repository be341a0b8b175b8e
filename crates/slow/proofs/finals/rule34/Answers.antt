use Rattle.model.specs.Model.{rule34}
use Rattle.slow.proofs.finals.rule34.Goals as goal

pub returns : goal.returns
unfolding rule34
returns c = rw (c.edge.ensures, c.joined.ensures)
