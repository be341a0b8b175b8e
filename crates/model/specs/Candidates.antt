-- A candidate execution, and what every candidate that is taken keeps.
use Rattle.std.specs.Prelude.{ℕ, ◌^◌, ◌<◌, ◌≤◌, Bool, false, not, ◌&&◌, ◌||◌, cond, List, [], ◌∷◌, eqb, leb, ltb, get_or, length}
use Rattle.rows.specs.Sets.{Set, any, all}
use Rattle.rows.specs.Numbers.{rel}
use Rattle.model.specs.declared.Action.{Action}
use Rattle.model.specs.Limits.{newest_edition, most_actions, most_threads, most_places, given_relations}
use Rattle.model.specs.Actions.{kind_number, order_in, no_action}

-- The edition whose rules it is judged by; N actions of T threads at P places; a byte per place; the actions; relations 0 to 6, a number per row, bit b of row a for a→b
pub record Candidate : Type 0 where
  pub edition : ℕ
  pub n : ℕ
  pub t : ℕ
  pub p : ℕ
  pub places : List ℕ
  pub acts : List Action
  pub sb : List ℕ
  pub asw : List ℕ
  pub dd : List ℕ
  pub cd : List ℕ
  pub rf : List ℕ
  pub sc : List ℕ
  pub mo : List ℕ

-- action a of a candidate, and what stands past the end of its actions
abbrev pub action_in : Candidate → ℕ → Action
action_in X a = get_or X.acts a no_action

-- Relations: 0 sb, 1 asw, 2 dd, 3 cd, 4 rf, 5 sc, 6 mo.
abbrev pub given : Candidate → List (List ℕ)
given X = X.sb ∷ X.asw ∷ X.dd ∷ X.cd ∷ X.rf ∷ X.sc ∷ X.mo ∷ []

-- k is one of the numbers of the list
abbrev pub among : ℕ → List ℕ → Bool
among k [] = false
among k (x ∷ xs) = eqb k x || among k xs

-- ---- words of one action

abbrev pub kind_is : List ℕ → Action → Bool
kind_is ks x = among (kind_number x.what) ks

abbrev pub order_is : List ℕ → Action → Bool
order_is os x = among (order_in x.what) os

-- Read: 3, 5, 6. Write: 4, 5, 7.
abbrev pub reads : Action → Bool
reads = kind_is (3 ∷ 5 ∷ 6 ∷ [])

abbrev pub writes : Action → Bool
writes = kind_is (4 ∷ 5 ∷ 7 ∷ [])

abbrev pub is_fence : Action → Bool
is_fence = kind_is (8 ∷ [])

-- ---- well-formed

-- Editions are numbered from 1 up to the newest that a build knows.
abbrev pub edition_ok : ℕ → ℕ → Bool
edition_ok newest e = leb 1 e && leb e newest

-- A fence has place 65535; any other place is below P.
abbrev pub place_ok : ℕ → Action → Bool
place_ok p x = cond (is_fence x) (eqb x.place 65535) (ltb x.place p)

-- A value that the kind doesn't have is 0.
abbrev pub values_ok : Action → Bool
values_ok x = (reads x || eqb x.read 0) && (writes x || eqb x.written 0)

-- thread below T, place below P or a fence's, absent values 0 (the kind carries its order, so kinds have their orders)
unfoldable pub action_ok : ℕ → ℕ → Action → Bool
action_ok t p x = ltb x.thread t && place_ok p x && values_ok x

-- 0 mutex, 1 non-atomic, 2 atomic
abbrev pub place_byte_ok : ℕ → Bool
place_byte_ok k = ltb k 3

-- N rows with no bit at column N or later
abbrev pub rows_ok : ℕ → List ℕ → Bool
rows_ok n rows = eqb (length rows) n && (all n λ a. ltb (get_or rows a 0) (2 ^ n))

-- Asw joins different threads: no b in row a is of a's thread.
unfoldable pub to_others : ℕ → (ℕ → Action) → Set → ℕ → Bool
to_others n action row a = not (any n λ b. row b && eqb (action b).thread (action a).thread)

unfoldable pub well_formed : Candidate → Bool
well_formed X =
    edition_ok newest_edition X.edition
    && eqb (length X.places) X.p
    && (all X.p λ i. place_byte_ok (get_or X.places i 0))
    && eqb (length X.acts) X.n
    && (all X.n λ a. action_ok X.t X.p (action_in X a))
    && (all given_relations λ k. rows_ok X.n (get_or (given X) k []))
    && (all X.n λ a. to_others X.n (action_in X) (rel X.asw a) a)

-- ---- within the limits

-- N 0 to 128, T 0 to 16, P 0 to 64
pub record Within (X : Candidate) : Type 0 where
  pub actions : X.n ≤ most_actions
  pub threads : X.t ≤ most_threads
  pub places : X.p ≤ most_places

-- value read u32, value written u32
abbrev pub Values : Action → Type 0
Values x = (x.read < 2 ^ 32) × (x.written < 2 ^ 32)

pub record Valued (X : Candidate) : Type 0 where
  pub each : (a : ℕ) → a < X.n → Values (action_in X a)
