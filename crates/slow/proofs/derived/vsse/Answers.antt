use Rattle.model.specs.Model.{vsse}
use Rattle.slow.proofs.derived.vsse.Goals as goal

pub returns : goal.returns
unfolding vsse
returns c = rw (c.seen.ensures, c.is-2.ensures, c.is.ensures)
