-- The list of candidates: choices, their options, and every way to take one option of each, the last choice varying fastest. Definitions only.
use Rattle.std.specs.Prelude.{ℕ, zero, suc, cond, ◌&&◌, List, [], ◌∷◌, ◌++◌, map, eqb}
use Rattle.rows.specs.Sets.{Set, either, single, without, count}
use Rattle.rows.specs.Numbers.{size, joined}
use Rattle.model.specs.Model.{Book}

-- ---- lists

-- f of each, one after another
unfoldable pub each_of : {A B : Type 0} → (A → List B) → List A → List B
each_of f [] = []
each_of f (x ∷ xs) = f x ++ each_of f xs

-- f of each member of s below n, by number, one after another
abbrev pub over : {A : Type 0} → ℕ → Set → (ℕ → List A) → List A
over n s f = joined n λ a. cond (s a) (f a) []

-- every way to take one of each; the last varies fastest
unfoldable pub product : {A : Type 0} → List (List A) → List (List A)
product [] = [] ∷ []
product (c ∷ cs) = each_of (λ x. map (λ l. x ∷ l) (product cs)) c

-- the orders of the m members of s, in dictionary order
unfoldable pub orders : ℕ → Set → List (List ℕ)
orders zero s = [] ∷ []
orders (suc m) s = over size s λ w. map (λ l. w ∷ l) (orders m (without s w))

-- ---- options: what each adds to a book

abbrev pub Option : Type 0
Option = Book → Book

-- relation k gets the edges from a to each of s
abbrev pub adds : ℕ → ℕ → Set → Option
adds k a s σ j x = cond (eqb j k && eqb x a) (either (σ j x) s) (σ j x)

-- relation k gets the members of s in the order l: each before those still to come
unfoldable pub chained : ℕ → Set → List ℕ → Option
chained k s [] σ = σ
chained k s (w ∷ l) σ = chained k (without s w) l (adds k w (without s w) σ)

-- the sources of read b: none, then each of s by number
abbrev pub sources : ℕ → Set → List Option
sources b s = (λ σ. σ) ∷ (over size s λ w. adds 4 w (single b) ∷ [])

-- the orders of s in relation k, in dictionary order
abbrev pub arrangements : ℕ → Set → List Option
arrangements k s = map (chained k s) (orders (count size s) s)

-- ---- the books of a list of choices

-- the book with each of these added
unfoldable pub taken : List Option → Option
taken [] σ = σ
taken (f ∷ fs) σ = taken fs (f σ)

-- the book with one option of each choice added, in every way
abbrev pub books : List (List Option) → Book → List Book
books cs σ = map (λ fs. taken fs σ) (product cs)
