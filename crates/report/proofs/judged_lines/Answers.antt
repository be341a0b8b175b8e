use Rattle.std.proofs.Common.{arith}
use Rattle.page.specs.Laws.Members.{members_before}
use Rattle.page.specs.Laws.Pens.{pens}
use Rattle.report.specs.Report.{judged_text}
use Rattle.report.proofs.judged_lines.Goals as goal

pub returns : goal.returns
unfolding judged_text
returns c = grind (arith, pens, members_before)
