use Rattle.std.proofs.Common.{◌≡◌}
use Rattle.model.specs.Limits.{most_actions}
use Rattle.rows.specs.Numbers.{listed}
use Rattle.drawing.specs.Files.{action_no}
use Rattle.drawing.proofs.actions.Given as goal

abbrev pub invariant-loop-i : goal.invariant-loop-i
invariant-loop-i l = l.list ≡ listed most_actions (action_no l.file l.i l.p)
