-- The store's numbers read back as the relations of the book; and a slice that holds the book is the store.
use Rattle.std.specs.Prelude.{ℕ, ◌+◌, ◌*◌, ◌/◌, ◌%◌, ◌<◌, List, [], ◌≡◌, refl, get_or, length}
use Rattle.std.proofs.Common.{sym, ap, ◌∙◌, arith, ext_get_or}
use Rattle.rows.specs.Sets.{Rel}
use Rattle.rows.specs.Numbers.{bit, listed, rel, width, digit, wide, size, area, held}
use Rattle.rows.proofs.Laws.Members.{digit_bit}
use Rattle.rows.proofs.Laws.Parts.{Words, held_number}
use Rattle.rows.specs.Laws.Lists.{listed_length, listed_at, listed_same}
use Rattle.model.specs.Limits.{given_relations, all_relations, store_length}
use Rattle.model.specs.Candidates.{Candidate, given}
use Rattle.model.specs.Words.{book_from}
use Rattle.model.specs.Model.{entered}
use Rattle.model.specs.Judge.{book}
use Rattle.model.specs.Store.{store_of}

-- relations 0 to 6 of the book are the given ones
pub book_as_given : (X : Candidate) (k : ℕ) → k < given_relations → book X k ≡ rel (get_or (given X) k [])
unfolding entered book_from listed
book_as_given X k l = listed_same given_relations (book X) (λ k. rel (get_or (given X) k [])) refl k l

-- number i of a book
abbrev pub number_of : (ℕ → Rel) → ℕ → ℕ
number_of ρ i = digit (ρ (i / area) (i % area / wide)) (i % area % wide)

pub store_length_lem : (X : Candidate) → length (store_of X) ≡ store_length
unfolding store_of
store_length_lem X = listed_length (number_of (book X)) store_length

pub store_number : (X : Candidate) (i : ℕ) → i < store_length → get_or (store_of X) i 0 ≡ number_of (book X) i
unfolding store_of
store_number X i l = listed_at (number_of (book X)) store_length i 0 l

-- bit b of number 256k + 2a + i is a→64i + b in relation k
pub store_bit : (X : Candidate) (k a i b : ℕ) → k < all_relations → a < size → i < wide → b < width → bit (get_or (store_of X) (area * k + wide * a + i) 0) b ≡ book X k a (width * i + b)
store_bit X k a i b lk la li lb =
    let m = area * k + wide * a + i in
    let p : m / area ≡ k = omega arith in
    let q : m % area / wide ≡ a = omega arith in
    let r : m % area % wide ≡ i = omega arith in
    rw (store_number X m (omega arith), p, q, r) (digit_bit (book X k a) i b lb)

-- a slice of the store's length that holds the book is the store
pub store_is : (X : Candidate) (u : List ℕ) → Words u → length u ≡ store_length → ((j : ℕ) → j < all_relations → held u j ≡ book X j) → u ≡ store_of X
store_is X u w e h =
    ext_get_or 0 u (store_of X) (e ∙ sym (store_length_lem X)) λ i l.
    let inside : i < store_length = omega arith in
    held_number u w i (omega arith) ∙ ap (λ (r : Rel). digit (r (i % area / wide)) (i % area % wide)) (h (i / area) (omega arith)) ∙ sym (store_number X i inside)
