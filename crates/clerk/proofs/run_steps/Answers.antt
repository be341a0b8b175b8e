-- The steps that are left lead from the machine to where all steps lead from the start.
use Rattle.std.proofs.Common.{sym, arith}
use Rattle.machine.specs.Laws.Reaching.{run_keeps}
use Rattle.clerk.specs.Laws.Traces.{running_over, running_on, running_done}
use Rattle.clerk.proofs.run_steps.Goals.{in-Ok, in-Err+in_ok-tell_step-in-Err}
use Rattle.clerk.proofs.run_steps.Goals as goal

pub returns-then-text-q-clause-runs : goal.returns-then-text-q-clause-runs
returns-then-text-q-clause-runs g c = sym (running_over c.loop-i.invariant (omega arith) (omega arith))

pub returns-then-text-q-clause-keeps : goal.returns-then-text-q-clause-keeps
returns-then-text-q-clause-keeps g c = run_keeps _ _ _ (sym (running_over c.loop-i.invariant (omega arith) (omega arith)))

-- a step that is taken leads on, and a refused one changes nothing
pub loop-i-preserved : goal.loop-i-preserved
loop-i-preserved g c =
    let running = running_on c.loop-i.invariant (omega arith) (omega arith) in
    elim c.match-step.branch [
      | in-Ok w ↦ let taken = rw w.in-Ok.is at c.step.ensures.stepped in rw w.m-is (rw (taken.machine, c.line_at-line.ensures) running)
      | in-Err+in_ok-tell_step-in-Err w ↦ let refused = rw w.in-Err.is at c.step.ensures.stepped in rw w.m-is (rw (sym refused.kept, c.line_at-line.ensures) running)
    ]

pub returns-clause-runs : goal.returns-clause-runs
returns-clause-runs g c = sym (running_done c.loop-i.invariant (omega arith))

pub returns-clause-keeps : goal.returns-clause-keeps
returns-clause-keeps g c = run_keeps _ _ _ (sym (running_done c.loop-i.invariant (omega arith)))
