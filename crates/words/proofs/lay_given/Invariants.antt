use Rattle.std.proofs.Common.{◌≡◌, ℕ, cond, ltb}
use Rattle.rows.specs.Numbers.{held}
use Rattle.words.proofs.lay_given.Given as goal

abbrev pub invariant-loop-k : goal.invariant-loop-k
invariant-loop-k l = (j : ℕ) → held l.desk j ≡ cond (ltb j l.k) (held l.store j) (held l.initial.desk j)
