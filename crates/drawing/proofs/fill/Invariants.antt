use Rattle.std.proofs.Common.{◌≡◌, ℕ, cond, ltb}
use Rattle.rows.specs.Numbers.{rel, held}
use Rattle.drawing.specs.Files.{rows_of}
use Rattle.drawing.proofs.fill.Given as goal

-- the relations below k are the file's, and the others as they were
abbrev pub invariant-loop-k : goal.invariant-loop-k
invariant-loop-k l = (j : ℕ) → held l.store j ≡ cond (ltb j l.k) (rel (rows_of l.file l.n l.p j)) (held l.initial.store j)
