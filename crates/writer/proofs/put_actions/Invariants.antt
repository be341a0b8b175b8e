use Rattle.std.proofs.Common.{◌≡◌}
use Rattle.rows.specs.Numbers.{joined}
use Rattle.page.specs.Pens.{penned}
use Rattle.drawing.specs.Files.{action_record}
use Rattle.lists.specs.Lists.{action_at}
use Rattle.writer.proofs.put_actions.Given as goal

abbrev pub invariant-loop-i : goal.invariant-loop-i
invariant-loop-i l = l.pen ≡ penned l.initial.pen (joined l.i λ j. action_record (action_at l.list j))
