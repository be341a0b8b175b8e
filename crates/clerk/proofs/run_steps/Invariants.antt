-- The steps that are left lead from the machine to where all steps lead from the start.
use Rattle.machine.specs.Code.{state_of}
use Rattle.clerk.specs.Laws.Traces.{Running}
use Rattle.clerk.proofs.run_steps.Given as goal

abbrev pub invariant-loop-i : goal.invariant-loop-i
invariant-loop-i g l = Running l.text l.at (state_of l.fn.begun) l.i l.q (state_of l.m)
