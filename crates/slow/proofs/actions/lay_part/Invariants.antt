use Prim.Native.Nat.{ℕ, ◌-◌, ◌≤◌}
use mathlib.Core.Path.{◌≡◌}
use lib.ListN.{length}
use Rattle.rows.specs.Sets.{before}
use Rattle.rows.specs.Numbers.{held}
use Rattle.slow.specs.Laying.{row}
use Rattle.model.specs.Laws.Books.{laid_to}
use Rattle.slow.proofs.actions.lay_part.Given as goal

abbrev pub invariant-loop-a : goal.invariant-loop-a
invariant-loop-a l = (l.a ≤ l.rows) × ((length l.t ≡ length l.initial.t) × ((j : ℕ) → held l.t j ≡ laid_to l.k (λ r. before (row l.acts l.places l.k r) l.n) (held l.initial.t) l.a j))

abbrev pub decreases-loop-a : goal.decreases-loop-a
decreases-loop-a l = l.rows - l.a
