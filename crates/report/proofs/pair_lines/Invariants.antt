use mathlib.Core.Path.{◌≡◌}
use Rattle.rows.specs.Numbers.{joined, held}
use Rattle.page.specs.Lines.{lines}
use Rattle.page.specs.Pens.{penned}
use Rattle.report.specs.Report.{row_pairs, pair_line}
use Rattle.report.proofs.pair_lines.Given as goal

abbrev pub invariant-loop-a : goal.invariant-loop-a
invariant-loop-a l = l.pen ≡ penned l.initial.pen (lines (pair_line l.word) (joined l.a (row_pairs l.n (held l.d l.k))))
