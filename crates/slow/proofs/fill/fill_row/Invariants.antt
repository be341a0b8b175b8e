use Prim.Native.Nat.{ℕ, ◌-◌, ◌≤◌}
use mathlib.Core.List.{List}
use mathlib.Core.Path.{◌≡◌}
use lib.ListN.{length, get_or}
use Rattle.rows.specs.Numbers.{area, held}
use Rattle.rows.specs.Sets.{Set, never}
use Rattle.table.specs.Laws.Table.{reaching}
use Rattle.slow.specs.Searches.{steps}
use Rattle.slow.proofs.fill.fill_row.Given as goal

-- what a leads to
abbrev pub row : ℕ → List ℕ → ℕ → ℕ → Set
row k t n a = get_or (steps n (held t)) (k - 7) never a

abbrev pub invariant-loop-b : goal.invariant-loop-b
invariant-loop-b l = (l.b ≤ l.t.n) × ((length l.part ≡ area) × ((j x : ℕ) → held l.part j x ≡ reaching (held l.initial.part) 0 l.a (row l.k l.t.numbers.now l.t.n l.a) l.b j x))

abbrev pub decreases-loop-b : goal.decreases-loop-b
decreases-loop-b l = l.t.n - l.b
