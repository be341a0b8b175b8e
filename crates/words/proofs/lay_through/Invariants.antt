use Rattle.std.proofs.Common.{◌≡◌, ℕ}
use Rattle.rows.specs.Numbers.{held}
use Rattle.words.proofs.Book.{laid_to, through}
use Rattle.words.proofs.lay_through.Given as goal

abbrev pub invariant-loop-a : goal.invariant-loop-a
invariant-loop-a l = (j : ℕ) → held l.desk j ≡ laid_to l.k (through l.sheet l.i (held l.turned 0)) (held l.initial.desk) l.a j
