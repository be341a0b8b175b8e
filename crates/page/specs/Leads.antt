-- What stands in a line between its word and its last number: a first number, if there is one.
use Rattle.std.specs.Prelude.{ℕ, List, [], ◌∷◌, Option, Some, None}

-- the numbers of a line that ends in b
abbrev pub led : Option ℕ → ℕ → List ℕ
led None b = b ∷ []
led (Some a) b = a ∷ b ∷ []
