-- A machine that a trace leads to takes a step to one.
use Rattle.machine.specs.Laws.Reaching.{steps_kept}
use Rattle.machine.proofs.steps.step.Goals as goal

pub returns-in-Does-clause-steps : goal.returns-in-Does-clause-steps
returns-in-Does-clause-steps c = λ K. steps_kept c.args.m c.args.s c.act.result (rw c.in-Does.is c.act.ensures) K

pub returns-in-Drains-clause-steps : goal.returns-in-Drains-clause-steps
returns-in-Drains-clause-steps c = λ K. steps_kept c.args.m c.args.s c.drain.result (rw c.in-Drains.is c.drain.ensures) K
