use Rattle.std.proofs.Common.{◌≡◌, ◌≤◌, drop, length}
use Prim.Native.Nat.{max}
use Rattle.spelling.specs.Spelling.{scan, number_at}
use Rattle.spelling.proofs.number_at.Given as goal

-- what is left to read from here is the whole number
abbrev pub invariant-loop-i : goal.invariant-loop-i
invariant-loop-i l = record { within : l.i ≤ max l.at (length l.s); left : number_at l.s l.at ≡ scan l.value l.i (drop l.i l.s) }
