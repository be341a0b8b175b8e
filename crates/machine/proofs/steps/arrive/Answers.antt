use Rattle.machine.specs.Code.{state_of}
use Rattle.machine.proofs.steps.arrive.Goals as goal

pub returns : goal.returns
unfolding state_of
returns c = rw c.without-r.ensures
