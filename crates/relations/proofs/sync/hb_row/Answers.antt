use Rattle.model.specs.Model.{hb}
use Rattle.relations.proofs.sync.hb_row.Goals as goal

pub returns : goal.returns
unfolding hb
returns c = rw (c.or.ensures, c.row-2.ensures, c.row.ensures)
