use Prim.Native.Nat.{◌-◌, ◌≤◌}
use mathlib.Core.Path.{◌≡◌}
use lib.ListN.{length}
use Rattle.rows.specs.Sets.{never}
use Rattle.rows.specs.Numbers.{area, held}
use Rattle.relations.specs.Laws.Derive.{Kept}
use Rattle.search.specs.Finds.{nothing}
use Rattle.search.proofs.clear_derived.Given as goal

-- `clear_derived`: the relations from 7 to below k are empty, and the others as they were. Assumes nothing.
abbrev pub invariant-loop-k : goal.invariant-loop-k
invariant-loop-k l = (length l.empty ≡ area) × ((held l.empty 0 ≡ never) × ((length l.store ≡ length l.initial.store) × ((7 ≤ l.k) × ((l.k ≤ 18) × Kept nothing (held l.initial.store) (held l.store) l.k))))

abbrev pub decreases-loop-k : goal.decreases-loop-k
decreases-loop-k l = 18 - l.k
