use Rattle.model.specs.Model.{unsequenced_races}
use Rattle.slow.proofs.derived.unsequenced_race.Goals as goal

pub returns : goal.returns
unfolding unsequenced_races
returns c = rw (c.edge-4.ensures, c.edge-3.ensures, c.is-4.ensures, c.is-3.ensures, c.edge-2.ensures, c.edge.ensures, c.is-2.ensures, c.is.ensures)
