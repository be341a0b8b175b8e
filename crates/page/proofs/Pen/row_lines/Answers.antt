use Rattle.std.proofs.Common.{arith}
use Rattle.rows.specs.Numbers.{size}
use Rattle.rows.specs.Members.{members_left}
use Rattle.page.specs.Laws.Members.{members_first, members_none}
use Rattle.page.specs.Laws.Pens.{pens}
use Rattle.page.proofs.Pen.row_lines.Goals as goal

pub loop-b-preserved : goal.loop-b-preserved
loop-b-preserved c =
    let h = c.in-Some.ensures.steps in
    rw h.others (grind (arith, pens, members_first size (members_left c.loop-b.b-iterator) h.some, h.first))

pub returns : goal.returns
returns c = let h = c.in-None.ensures.steps in grind (arith, pens, members_none size (members_left c.loop-b.b-iterator) h.0)
