use Rattle.std.proofs.Common.{◌≡◌, ◌+◌, get_or}
use Rattle.rows.specs.Numbers.{joined}
use Rattle.page.specs.Pens.{penned}
use Rattle.drawing.specs.Files.{place_bytes}
use Rattle.spelling.specs.Spelling.{place_line}
use Rattle.translator.proofs.writing.place_lines.Given as goal

abbrev pub invariant-loop-i : goal.invariant-loop-i
invariant-loop-i l = l.pen ≡ penned l.initial.pen (joined l.i λ j. place_line (get_or l.file (place_bytes + j) 0))
