use Rattle.model.specs.Model.{hb}
use Rattle.slow.proofs.derived.hb.Goals as goal

pub returns : goal.returns
unfolding hb
returns c = rw (c.edge-2.ensures, c.edge.ensures)
