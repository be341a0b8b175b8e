use Rattle.std.proofs.Common.{◌≡◌}
use Rattle.rows.specs.Numbers.{joined}
use Rattle.page.specs.Pens.{penned}
use Rattle.drawing.specs.Files.{le, row_bytes}
use Rattle.lists.specs.Lists.{row_in}
use Rattle.writer.proofs.put_rows.Given as goal

abbrev pub invariant-loop-a : goal.invariant-loop-a
invariant-loop-a l = l.pen ≡ penned l.initial.pen (joined l.a λ b. le (row_bytes l.n) (row_in l.store l.k b))
