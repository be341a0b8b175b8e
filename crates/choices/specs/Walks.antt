-- The same list as a walk makes it, one choice at a time, and the search of a list one candidate after another. Definitions only.
use Rattle.std.specs.Prelude.{ℕ, zero, suc, ◌+◌, ◌-◌, Bool, cond, List, [], ◌∷◌, ◌++◌, ltb}
use Rattle.rows.specs.Sets.{Set, Rel, when, single, without, count}
use Rattle.rows.specs.Numbers.{size}
use Rattle.model.specs.Candidates.{Candidate, action_in, reads}
use Rattle.model.specs.Model.{Book, filled}
use Rattle.model.specs.Judge.{is_passed, verdict}
use Rattle.choices.specs.declared.Outcome.{Outcome}
use Rattle.choices.specs.declared.Outcome.TheVariants.{Found, None, Undecided}
use Rattle.choices.specs.Lists.{Option, over, adds, sources, arrangements}
use Rattle.choices.specs.Halves.{writes_for, writes_at, sc_actions, atomic_place}

-- ---- the choices of a plan: row i has what choice i is made of; the first n choices are sources of reads, the next p orders of writes, the last the order of the SC actions

-- the relation that choice i orders: mo for a place, sc for the last
abbrev pub ordering : ℕ → ℕ → ℕ → ℕ
ordering n p i = cond (ltb i (n + p)) 6 5

abbrev pub choice : ℕ → ℕ → Rel → ℕ → List Option
choice n p π i = cond (ltb i n) (sources i (π i)) (arrangements (ordering n p i) (π i))

-- the last o of the n + p + 1 choices
unfoldable pub choices : ℕ → ℕ → Rel → ℕ → List (List Option)
choices n p π zero = []
choices n p π (suc o) = choice n p π (n + p - o) ∷ choices n p π o

-- the plan of a drawing: an action that is no read and a place that is not atomic have an empty row, and so one option that adds nothing
unfoldable pub plan_of : Candidate → Rel
plan_of X i =
    cond (ltb i X.n) (when (reads (action_in X i)) (writes_for X i))
    (cond (ltb i (X.n + X.p)) (when (atomic_place X (i - X.n)) (writes_at X (i - X.n)))
    (sc_actions X))

-- ---- the books of the last o choices, one choice at a time

-- with each of s as the source of b
abbrev pub each_source : ℕ → Set → (Book → List Book) → Book → List Book
each_source b s rest σ = over size s λ w. rest (adds 4 w (single b) σ)

-- with no source for b, then each of s
abbrev pub sourced : ℕ → Set → (Book → List Book) → Book → List Book
sourced b s rest σ = rest σ ++ each_source b s rest σ

-- with the m members of s in some order, one at a time: each before those still to come
unfoldable pub arranged : ℕ → ℕ → Set → (Book → List Book) → Book → List Book
arranged zero k s rest σ = rest σ
arranged (suc m) k s rest σ = over size s λ w. arranged m k (without s w) rest (adds k w (without s w) σ)

-- with each of s as the next one, before the others in each of their orders
abbrev pub each_next : ℕ → Set → (Book → List Book) → Book → List Book
each_next k s rest σ = over size s λ w. arranged (count size (without s w)) k (without s w) rest (adds k w (without s w) σ)

abbrev pub chosen : ℕ → ℕ → Rel → ℕ → (Book → List Book) → Book → List Book
chosen n p π i rest =
    cond (ltb i n) (sourced i (π i) rest) (arranged (count size (π i)) (ordering n p i) (π i) rest)

unfoldable pub spread : ℕ → ℕ → Rel → ℕ → Book → List Book
spread n p π zero σ = σ ∷ []
spread n p π (suc o) σ = chosen n p π (n + p - o) (spread n p π o) σ

-- ---- the search, one candidate after another

-- the book, relations 7 to 17 still to be worked out, is passed by edition e
unfoldable pub passes : ℕ → ℕ → Book → Bool
passes e n σ = is_passed (verdict e n (filled n σ))

-- what a run over a list comes to: a candidate passed, or the whole list failed, each with the budget left; or the budget is spent and some of the list is left
pub data Run (A : Type 0) : Type 0 where
  hit : A → ℕ → Run A
  through : ℕ → Run A
  spent : Run A

unfoldable pub seek : {A : Type 0} → (A → Bool) → List A → ℕ → Run A
seek f [] b = through b
seek f (x ∷ xs) zero = spent
seek f (x ∷ xs) (suc b) = cond (f x) (hit x b) (seek f xs b)

-- one run after another, with the budget handed along
abbrev pub then : {A : Type 0} → Run A → (ℕ → Run A) → Run A
then (hit x b) k = hit x b
then (through b) k = k b
then spent k = spent

-- the answer of a run that began with the budget b
abbrev pub told : {A : Type 0} → ℕ → Run A → Outcome
told b (hit x c) = Found (b - c)
told b (through c) = None (b - c)
told b spent = Undecided b
