use Prim.Native.Nat.{ℕ, ◌-◌, ◌≤◌}
use mathlib.Core.List.{List}
use mathlib.Core.Path.{◌≡◌}
use lib.ListN.{length, get_or}
use Rattle.rows.specs.Numbers.{area, held}
use Rattle.rows.specs.Sets.{Rel, never}
use Rattle.table.specs.Laws.Walk.{walked}
use Rattle.slow.specs.Searches.{steps}
use Rattle.slow.proofs.fill.fill_steps.Given as goal

abbrev pub pairs : ℕ → List ℕ → ℕ → Rel
pairs k t n = get_or (steps n (held t)) (k - 7) never

abbrev pub invariant-loop-a : goal.invariant-loop-a
invariant-loop-a l = (l.a ≤ l.t.n) × ((length l.part ≡ area) × ((x : ℕ) → held l.part 0 x ≡ walked l.t.n (pairs l.k l.t.numbers.now l.t.n) l.a x))

abbrev pub decreases-loop-a : goal.decreases-loop-a
decreases-loop-a l = l.t.n - l.a
