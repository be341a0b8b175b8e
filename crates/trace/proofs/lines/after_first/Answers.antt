-- The line has room.
use Rattle.std.proofs.Common.{rules, arith}
use Rattle.trace.specs.Laws.Lengths.{first_short}
use Rattle.trace.specs.Traces.{machine_line}
use Rattle.trace.proofs.lines.after_first.Goals as goal

pub returns : goal.returns
returns c = c.after_text.ensures (machine_line c.args.t c.args.p) (λ p q w. search rules) (first_short c.args.t c.args.p (omega arith) (omega arith))
