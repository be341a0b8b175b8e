use Rattle.std.proofs.Common.{◌≡◌}
use Rattle.rows.specs.Numbers.{joined}
use Rattle.page.specs.Pens.{penned}
use Rattle.drawing.specs.Files.{action_at, action_of}
use Rattle.spelling.specs.Spelling.{action_line}
use Rattle.translator.proofs.writing.action_lines.Given as goal

abbrev pub invariant-loop-i : goal.invariant-loop-i
invariant-loop-i l = l.pen ≡ penned l.initial.pen (joined l.i λ j. action_line (action_of l.file (action_at l.p j)))
