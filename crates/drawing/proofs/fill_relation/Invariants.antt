use Rattle.std.proofs.Common.{◌≡◌, ℕ, ◌<◌}
use Rattle.rows.specs.Numbers.{bit, held}
use Rattle.drawing.specs.Files.{row_no}
use Rattle.drawing.proofs.fill_relation.Given as goal

-- relation k's rows below a are the file's, and the other relations as they were
abbrev pub invariant-loop-a : goal.invariant-loop-a
invariant-loop-a l =
    ((x : ℕ) → x < l.a → held l.store l.k x ≡ bit (row_no l.file l.n l.p l.k x)) × ((j : ℕ) → (j ≡ l.k → ⊥) → held l.store j ≡ held l.initial.store j)
