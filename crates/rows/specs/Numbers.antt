-- Sets and relations kept as numbers: the bits of a number are a set, those of a row of numbers a larger one, and a part of `area` numbers is a relation. Definitions only.
use Rattle.std.specs.Prelude.{ℕ, zero, suc, ◌+◌, ◌*◌, ◌/◌, ◌%◌, ◌^◌, Bool, cond, ◌&&◌, List, [], ◌∷◌, ◌++◌, eqb, leb, ltb, length, get_or}
use Rattle.rows.specs.Sets.{Set, Rel, when}
use Rattle.rows.specs.declared.Row.{Row}
use Rattle.rows.specs.declared.Run.{Run}

-- bit b of x
unfoldable pub bit : ℕ → Set
bit x b = eqb (x / 2 ^ b % 2) 1

-- the number whose bits are the members of s below n
unfoldable pub number : ℕ → Set → ℕ
number zero s = 0
number (suc n) s = number n s + cond (s n) (2 ^ n) 0

-- the list of f at 0, 1 .. n - 1
unfoldable pub listed : {A : Type 0} → ℕ → (ℕ → A) → List A
listed zero f = []
listed (suc n) f = listed n f ++ (f n ∷ [])

-- the lists of f at 0, 1 .. n - 1, one after another
unfoldable pub joined : {A : Type 0} → ℕ → (ℕ → List A) → List A
joined zero f = []
joined (suc n) f = joined n f ++ f n

-- n rows as the relation that they hold: bit b of row a
abbrev pub rel : List ℕ → Rel
rel rows a = bit (get_or rows a 0)

-- the rows of r below n
abbrev pub rows_of : ℕ → Rel → List ℕ
rows_of n r = listed n λ a. number n (r a)

-- ---- sets kept in several numbers

-- bits of a number
abbrev pub width : ℕ
width = 64

-- the members of a row of w numbers f 0, f 1 ..: b is bit b % width of number b / width
unfoldable pub member : ℕ → (ℕ → ℕ) → Set
member w f b = ltb b (width * w) && bit (f (b / width)) (b % width)

-- number i of the row whose members are s
unfoldable pub digit : Set → ℕ → ℕ
digit s i = number width λ b. s (width * i + b)

-- x as number i of a row, and its other numbers 0
abbrev pub alone : ℕ → ℕ → ℕ → ℕ
alone i x j = cond (eqb j i) x 0

-- ---- the code's rows and parts: only this crate opens `has`, `ran` and `held`

-- numbers of a row
abbrev pub wide : ℕ
wide = 2

-- columns of a row, and rows of a part
abbrev pub size : ℕ
size = width * wide

-- numbers of a part
abbrev pub area : ℕ
area = wide * size

-- the numbers of a row
abbrev pub numbers : Row → ℕ → ℕ
numbers r i = get_or (r.low ∷ r.high ∷ []) i 0

-- the members of a row
unfoldable pub has : Row → Set
has r = member wide (numbers r)

-- the members of a run: those of one number of a row
unfoldable pub ran : Run → Set
ran r = member wide (alone r.index r.word)

-- part k of a slice is there, from its first number to its last
abbrev pub whole : List ℕ → ℕ → Bool
whole d k = leb (area * k + area) (length d)

-- number i of row a of part k
abbrev pub cell : List ℕ → ℕ → ℕ → ℕ → ℕ
cell d k a i = get_or d (area * k + wide * a + i) 0

-- the parts of a slice, read as relations by number: past its rows a part has nothing, and one that is not whole has nothing at all
unfoldable pub held : List ℕ → ℕ → Rel
held d k a = when (whole d k && ltb a size) (member wide (cell d k a))
