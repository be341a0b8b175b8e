use Prim.Native.Nat.{◌≤◌}
use Rattle.words.specs.Sheet.{Sheet}
use Rattle.second.proofs.sheet_of.Given as goal

-- `sheet_of`: the first i actions are noted. Assumes nothing.
abbrev pub invariant-loop-i : goal.invariant-loop-i
invariant-loop-i l = (l.i ≤ l.n) × Sheet l.i l.list l.places l.sheet
