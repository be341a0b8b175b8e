use Rattle.model.specs.Model.{vse}
use Rattle.slow.proofs.derived.vse.Goals as goal

pub returns : goal.returns
unfolding vse
returns c = rw (c.hidden.ensures, c.edge-2.ensures, c.is-2.ensures, c.is.ensures, c.edge.ensures)
