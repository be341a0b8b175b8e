-- No more are refused than are tried.
use Rattle.std.proofs.Common.{◌≤◌}
use Rattle.texts.proofs.rooms.refused_below.Given as goal

abbrev pub invariant-loop-room : goal.invariant-loop-room
invariant-loop-room l = l.refused ≤ l.room
