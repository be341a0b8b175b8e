-- The least pair of a relation.
use Rattle.std.specs.Prelude.{ℕ, ◌<◌, true, false, ◌≡◌}
use Rattle.rows.specs.Sets.{Rel}

-- a pair below n that is in r, with none before it in dictionary order
pub record LeastPair (n : ℕ) (r : Rel) (a b : ℕ) : Type 0 where
  pub row_lt : a < n
  pub column_lt : b < n
  pub hit : r a b ≡ true
  pub rows : (x y : ℕ) → x < a → y < n → r x y ≡ false
  pub columns : (y : ℕ) → y < b → r a y ≡ false
