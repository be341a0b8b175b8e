-- What is left to read, after the value so far, is the whole answer.
use Rattle.std.proofs.Common.{◌≡◌, drop}
use Rattle.clerk.specs.Numbers.{number_of}
use Rattle.clerk.specs.Laws.Numbers.{number_after}
use Rattle.clerk.proofs.number_of.Given as goal

abbrev pub invariant-loop-b : goal.invariant-loop-b
invariant-loop-b l = number_of l.text ≡ number_after l.value (drop l.b-index l.text)
