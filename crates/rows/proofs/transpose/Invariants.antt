use Rattle.std.proofs.Common.{ℕ, ◌&&◌, ◌≡◌, ltb}
use Rattle.rows.specs.Numbers.{held}
use Rattle.rows.specs.Sets.{Rel, before}
use Rattle.rows.proofs.transpose.Given as goal

-- r turned around, its columns below n
abbrev pub turned : ℕ → Rel → Rel
turned n r x y = r y x && ltb x n

abbrev pub invariant-loop-b : goal.invariant-loop-b
invariant-loop-b l = held l.part 0 ≡ (λ x. before (turned l.n (held l.d l.k) x) l.b)
