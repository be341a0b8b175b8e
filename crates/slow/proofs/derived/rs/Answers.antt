use Rattle.model.specs.Model.{rs}
use Rattle.slow.proofs.derived.rs.Goals as goal

pub returns : goal.returns
unfolding rs
returns c = rw (c.is.ensures, c.hrs.ensures)
