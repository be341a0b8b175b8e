use Prim.Native.Nat.{ℕ, ◌-◌, ◌≤◌}
use mathlib.Core.Path.{◌≡◌}
use lib.ListN.{length}
use Rattle.rows.specs.Numbers.{area, held}
use Rattle.rows.specs.Sets.{closure}
use Rattle.table.specs.Laws.Walk.{walked}
use Rattle.table.proofs.walk.close.Given as goal

abbrev pub invariant-loop-a : goal.invariant-loop-a
invariant-loop-a l = (l.a ≤ l.n) × ((length l.part ≡ area) × ((x : ℕ) → held l.part 0 x ≡ walked l.n (closure l.n (held l.steps 0)) l.a x))

abbrev pub decreases-loop-a : goal.decreases-loop-a
decreases-loop-a l = l.n - l.a
