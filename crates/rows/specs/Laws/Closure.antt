-- What a round of the closure has come to, and what a row gains in it.
use Prim.Native.Nat.{ℕ, ◌≤◌, ◌<◌}
use Rattle.std.specs.Prelude.{Bool, false, cond, ◌≡◌, T, eqb}
use Rattle.rows.specs.Sets.{Set, Rel, either, less, image}

-- A round over r, from the last row to the first, has come to i and to `now`: each row from i on has gained what its members below n led to, and nothing that the closure has not. `more` tells whether that is more than r. At 0 it is over.
pub record Round (n : ℕ) (r now : Rel) (i : ℕ) (more : Bool) : Type 0 where
  pub grows : (a b : ℕ) → T (r a b) → T (now a b)
  pub reaches : (a c b : ℕ) → i ≤ a → c < n → T (r a c) → T (r c b) → T (now a b)
  pub inside : (q : Rel) → ((a b : ℕ) → T (r a b) → T (q a b)) → ((a c b : ℕ) → c < n → T (q a c) → T (q c b) → T (q a b)) → (a b : ℕ) → T (now a b) → T (q a b)
  pub idle : more ≡ false → now ≡ r

-- row k with what its members below n lead to
abbrev pub turned : ℕ → Rel → ℕ → Rel
turned n r k x = cond (eqb x k) (either (r k) (image n (r k) r)) (r x)

-- what row k gains by that
abbrev pub gains : ℕ → Rel → ℕ → Set
gains n r k = less (image n (r k) r) (r k)
