use Rattle.std.proofs.Common.{◌≡◌}
use Rattle.rows.specs.Numbers.{size, has}
use Rattle.rows.specs.Members.{members_left}
use Rattle.page.specs.Leads.{led}
use Rattle.page.specs.Lines.{line, lines, members}
use Rattle.page.specs.Pens.{penned}
use Rattle.page.proofs.Pen.row_lines.Given as goal

-- what is left to write makes the same page as the whole
abbrev pub invariant-loop-b : goal.invariant-loop-b
invariant-loop-b l = penned l.self (lines (λ b. line l.word (led l.first b)) (members size (members_left l.b-iterator))) ≡ penned l.initial.self (lines (λ b. line l.word (led l.first b)) (members size (has l.fn.row)))
