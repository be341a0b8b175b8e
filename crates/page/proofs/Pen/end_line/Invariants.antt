use mathlib.Core.Path.{◌≡◌}
use lib.ListN.{drop}
use Rattle.page.specs.Lines.{ending}
use Rattle.page.specs.Pens.{penned}
use Rattle.page.proofs.Pen.end_line.Given as goal

abbrev pub invariant-loop-n : goal.invariant-loop-n
invariant-loop-n l = penned l.self (ending (drop l.n-index l.numbers)) ≡ penned l.initial.self (ending l.numbers)
