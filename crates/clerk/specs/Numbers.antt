-- The number that a text is in decimal. Definitions only.
use Rattle.std.specs.Prelude.{ℕ, ◌+◌, ◌*◌, ◌-◌, ◌^◌, Bool, true, ◌&&◌, cond, List, [], ◌∷◌, leb, ltb, length, None, Option, Some}

-- every byte is one of the digits 0 to 9
unfoldable pub digits_only : List ℕ → Bool
digits_only [] = true
digits_only (b ∷ text) = leb 48 b && leb b 57 && digits_only text

-- the value of digits that come after a number v
unfoldable pub value_after : ℕ → List ℕ → ℕ
value_after v [] = v
value_after v (b ∷ text) = value_after (10 * v + (b - 48)) text

-- one digit or more and nothing else, of a value below 2 to the 64
unfoldable pub number_of : List ℕ → Option ℕ
number_of text =
    cond (ltb 0 (length text) && digits_only text && ltb (value_after 0 text) (2 ^ 64)) (Some (value_after 0 text)) None
