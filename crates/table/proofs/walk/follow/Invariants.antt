use Prim.Native.Nat.{ℕ, ◌-◌, ◌≤◌}
use mathlib.Core.Path.{◌≡◌}
use lib.ListN.{length}
use Rattle.rows.specs.Numbers.{area, held}
use Rattle.table.specs.Laws.Table.{reaching}
use Rattle.table.proofs.walk.follow.Given as goal

abbrev pub invariant-loop-b : goal.invariant-loop-b
invariant-loop-b l = (l.b ≤ l.n) × ((length l.reached ≡ area) × ((j x : ℕ) → held l.reached j x ≡ reaching (held l.initial.reached) 0 l.a (held l.t l.k l.c) l.b j x))

abbrev pub decreases-loop-b : goal.decreases-loop-b
decreases-loop-b l = l.n - l.b
