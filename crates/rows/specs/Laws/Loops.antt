-- Rows that gain something, and columns marked in rows.
use Rattle.std.specs.Prelude.{ℕ}
use Rattle.rows.specs.Sets.{Set, Rel, either, when, single}

-- r where each row of s has gained what g makes of it
abbrev pub gained : (Set → Set) → Rel → Set → Rel
gained g r s x = either (r x) (when (s x) (g (r x)))

-- r with column b in the rows of s
abbrev pub marked : Rel → Set → ℕ → Rel
marked r s b = gained (λ row. single b) r s
