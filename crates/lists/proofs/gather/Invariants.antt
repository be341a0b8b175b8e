use Rattle.std.proofs.Common.{◌≡◌}
use Rattle.lists.specs.Lists.{gathered}
use Rattle.lists.proofs.gather.Given as goal

-- `gather`: the first i actions are gathered. Assumes nothing.
abbrev pub invariant-loop-i : goal.invariant-loop-i
invariant-loop-i l = l.list ≡ (gathered l.acts l.i).list
