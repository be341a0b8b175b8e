use Rattle.std.proofs.Common.{◌≡◌, ℕ}
use Rattle.rows.specs.Numbers.{held}
use Rattle.words.proofs.Book.{laid_to, value_row}
use Rattle.words.proofs.lay_values.Given as goal

abbrev pub invariant-loop-a : goal.invariant-loop-a
invariant-loop-a l = (j : ℕ) → held l.desk j ≡ laid_to 21 (value_row l.n l.sheet) (held l.initial.desk) l.a j
