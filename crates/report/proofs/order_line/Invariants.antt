use mathlib.Core.Path.{◌≡◌}
use lib.ListN.{drop}
use Rattle.page.specs.Lines.{ending}
use Rattle.page.specs.Pens.{penned}
use Rattle.report.proofs.order_line.Given as goal

abbrev pub invariant-loop-action : goal.invariant-loop-action
invariant-loop-action l = penned l.pen (ending (drop l.action-index l.action-items)) ≡ penned l.initial.pen (ending l.action-items)
