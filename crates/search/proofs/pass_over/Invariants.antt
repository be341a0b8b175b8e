-- `pass_over`: the choices left have the same books as all of them. Assumes nothing.
use Rattle.std.proofs.Common.{◌≡◌, ◌≤◌}
use Rattle.rows.specs.Numbers.{held}
use Rattle.choices.specs.Walks.{spread}
use Rattle.search.proofs.pass_over.Given as goal

abbrev pub invariant-loop-left : goal.invariant-loop-left
invariant-loop-left l = (l.left ≤ l.ahead) × (spread l.n l.p (held l.plan 0) l.left ≡ spread l.n l.p (held l.plan 0) l.ahead)

abbrev pub decreases-loop-left : goal.decreases-loop-left
decreases-loop-left l = l.left
