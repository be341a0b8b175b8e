use Prim.Native.Nat.{ℕ, ◌<◌, ◌≤◌}
use mathlib.Core.Path.{◌≡◌}
use lib.ListN.{length}
use Rattle.rows.specs.Numbers.{area, held}
use Rattle.finder.specs.Finding.{plan_row}
use Rattle.finder.proofs.lay_plan.Given as goal

-- `lay_plan`: the first i rows of the plan are laid. Assumes nothing.
abbrev pub invariant-loop-i : goal.invariant-loop-i
invariant-loop-i l = (l.i ≤ l.i-end) × ((length l.plan ≡ area) × ((x : ℕ) → x < l.i → held l.plan 0 x ≡ plan_row l.n l.p (held l.desk) (held l.at 0) x))
