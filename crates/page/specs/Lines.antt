-- Words, numbers and lines as bytes. Definitions only.
use Rattle.std.specs.Prelude.{ℕ, zero, suc, ◌+◌, ◌/◌, ◌%◌, cond, List, [], ◌∷◌, ◌++◌, ltb}
use Prim.Native.Char.{code}
use Prim.Native.String.{String, [] as []ˢ, ◌∷◌ as ◌∷ˢ◌}
use Rattle.rows.specs.Sets.{Set}
use Rattle.rows.specs.Numbers.{joined}

-- ---- text as bytes

-- the characters' numbers: of ASCII characters their bytes
abbrev pub ascii : String → List ℕ
ascii []ˢ = []
ascii (c ∷ˢ text) = code c ∷ ascii text

abbrev pub space : ℕ
space = 32

abbrev pub newline : ℕ
newline = 10

-- ---- numbers

-- the decimal digits of n, where k tenths of it are enough
unfoldable pub digits : ℕ → ℕ → List ℕ
digits zero n = (48 + n) ∷ []
digits (suc k) n = cond (ltb n 10) ((48 + n) ∷ []) (digits k (n / 10) ++ ((48 + n % 10) ∷ []))

unfoldable pub decimal : ℕ → List ℕ
decimal n = digits n n

-- ---- lines

-- numbers, each after a space, and a newline
unfoldable pub ending : List ℕ → List ℕ
ending [] = newline ∷ []
ending (n ∷ ns) = space ∷ (decimal n ++ ending ns)

-- a word, and numbers
abbrev pub line : List ℕ → List ℕ → List ℕ
line word ns = word ++ ending ns

-- a line for each
unfoldable pub lines : {A : Type 0} → (A → List ℕ) → List A → List ℕ
lines f [] = []
lines f (x ∷ xs) = f x ++ lines f xs

-- ---- what the lines are of, rising

-- the members of s below n
abbrev pub members : ℕ → Set → List ℕ
members n s = joined n λ b. cond (s b) (b ∷ []) []
