use Rattle.desk.specs.Notes.{notes}
use Rattle.rows.specs.Sets.{never, within}
use Rattle.rows.specs.Numbers.{held}
use lib.ListN.{get_or}
use mathlib.Core.Path.{◌≡◌}
use Prim.Native.Nat.{ℕ, ◌<◌}
use Rattle.desk.proofs.take_notes.Given as goal

abbrev pub invariant-loop-j : goal.invariant-loop-j
invariant-loop-j l = (i : ℕ) → i < l.j → held l.e i ≡ within l.n (get_or (notes l.n (held l.d)) i never)
