use Prim.Native.Nat.{ℕ, ◌-◌, ◌≤◌}
use mathlib.Core.Path.{◌≡◌}
use lib.ListN.{length}
use Rattle.rows.specs.Numbers.{held}
use Rattle.model.specs.Laws.Books.{up_to}
use Rattle.slow.proofs.actions.lay_given.Given as goal

abbrev pub invariant-loop-k : goal.invariant-loop-k
invariant-loop-k l = (l.k ≤ 7) × ((length l.t ≡ length l.initial.t) × ((j : ℕ) → held l.t j ≡ up_to (held l.store) (held l.initial.t) l.k j))

abbrev pub decreases-loop-k : goal.decreases-loop-k
decreases-loop-k l = 7 - l.k
