use Prim.Native.Nat.{ℕ, ◌-◌, ◌≤◌}
use mathlib.Core.Path.{◌≡◌}
use lib.ListN.{length}
use Rattle.rows.specs.Numbers.{held}
use Rattle.slow.specs.Laying.{row}
use Rattle.table.specs.Laws.Table.{reaching}
use Rattle.slow.proofs.actions.lay_row.Given as goal

abbrev pub invariant-loop-b : goal.invariant-loop-b
invariant-loop-b l = (l.b ≤ l.n) × ((length l.t ≡ length l.initial.t) × ((j r : ℕ) → held l.t j r ≡ reaching (held l.initial.t) l.k l.a (row l.acts l.places l.k l.a) l.b j r))

abbrev pub decreases-loop-b : goal.decreases-loop-b
decreases-loop-b l = l.n - l.b
