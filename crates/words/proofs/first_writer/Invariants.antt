use Rattle.std.proofs.Common.{◌≡◌, ℕ, ◌<◌, false}
use Rattle.words.specs.Sheet.{same_written}
use Rattle.words.proofs.first_writer.Given as goal

abbrev pub invariant-loop-b : goal.invariant-loop-b
invariant-loop-b l = (x : ℕ) → x < l.b → same_written l.sheet l.a x ≡ false
