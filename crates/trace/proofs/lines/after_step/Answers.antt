-- The line has room.
use Rattle.std.proofs.Common.{rules, ◌≤◌, List, length, arith}
use mir.Val.{Val}
use denote.Laws.{Is}
use denote.Enum.Declared.{row}
use Rattle.machine.specs.declared.Step.{Step}
use Rattle.machine.specs.declared.Step.TheVariants.{Does, Drains}
use Rattle.machine.specs.contracts.Step.{the_type}
use Rattle.trace.specs.Laws.Lengths.{does_short, drains_short}
use Rattle.trace.specs.Traces.{step_line}
use Rattle.trace.proofs.lines.after_step.Goals as goal

-- the numbers of a step have 64 bits
short : (x : Step) {vs : List Val} → Is (row the_type) x vs → length (step_line x) ≤ 88
short (Does what thread place written) good = does_short what thread place written (omega arith) (omega arith) (omega arith)
short (Drains thread) good = drains_short thread (omega arith)

pub returns : goal.returns
returns c = c.after_text.ensures (step_line c.args.step) (λ p q w. search rules) (short c.args.step c.well_formed.1.1.0)
