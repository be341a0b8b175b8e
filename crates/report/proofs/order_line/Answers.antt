use Rattle.std.proofs.Common.{arith}
use Rattle.std.proofs.lemmas.List.{take_min}
use Rattle.page.specs.Laws.Pens.{pens}
use Rattle.report.proofs.order_line.Goals as goal

pub returns-after-loop-action : goal.returns-after-loop-action
returns-after-loop-action c = grind (arith, pens, take_min)
