-- What a walk over a list of books keeps, and what a search answers and leaves in the store. Definitions only.
use Rattle.std.specs.Prelude.{ℕ, ◌+◌, ◌-◌, ◌<◌, ◌≤◌, false, cond, ◌&&◌, List, ◌≡◌, eqb, leb, ltb, length, get_or, Result, Ok, Err}
use Rattle.rows.specs.Sets.{Set, never}
use Rattle.rows.specs.Numbers.{size, held}
use Rattle.model.specs.Limits.{store_length, desk_length}
use Rattle.model.specs.Model.{Book, filled}
use Rattle.model.specs.Laws.Filled.{unfilled}
use Rattle.model.specs.Laws.Placing.{Placing}
use Rattle.choices.specs.declared.Outcome.{Outcome}
use Rattle.choices.specs.declared.Outcome.TheVariants.{Found, None, Undecided}
use Rattle.choices.specs.Outcomes.{outcome}
use Rattle.choices.specs.Walks.{Run, hit, through, spent, seek, passes}
use Rattle.search.specs.declared.Stop.{Stop}
use Rattle.search.specs.declared.Stop.TheVariants.{Hit as AtHit, Spent as AtEnd}

-- no relation at all
abbrev pub nothing : Book
nothing j = never

-- the book with relations 7 to 17 blank: what stands there is never read
unfoldable pub blank : Book → Book
blank ρ = unfilled ρ nothing

-- row a of relation k becomes s
abbrev pub replaced : ℕ → ℕ → Set → Book → Book
replaced k a s σ j x = cond (eqb j k && eqb x a) s (σ j x)

-- ---- a walk

-- what a walk comes to: a candidate passed, or all of them failed, each with the budget left; or the budget is spent
abbrev pub Walked : Type 0
Walked = Result ℕ Stop

abbrev pub Hit : ℕ → Walked
Hit b = Err (AtHit b)

abbrev pub Through : ℕ → Walked
Through b = Ok b

abbrev pub Spent : Walked
Spent = Err AtEnd

-- the store keeps all but relations 7 to 17
abbrev pub Kept : Book → Book → Type 0
Kept s s' = (j : ℕ) → leb 7 j && ltb j 18 ≡ false → s' j ≡ s j

-- the store has relations 4 to 17 of the book σ
abbrev pub Laid : ℕ → Book → Book → Book → Type 0
Laid n σ s s' = (j : ℕ) → s' j ≡ cond (leb 4 j && ltb j 18) (filled n σ j) (s j)

-- a walk's answer is the run's; the store has the book that was hit, or is kept
abbrev pub Stands : ℕ → Run Book → Book → Book → Walked → Type 0
Stands n (hit σ b) s s' r = (r ≡ Hit b) × Laid n σ s s'
Stands n (through b) s s' r = (r ≡ Through b) × Kept s s'
Stands n spent s s' r = (r ≡ Spent) × Kept s s'

-- a walk over a list with the budget b, by edition e
pub record Walks (e n : ℕ) (list : List Book) (b : ℕ) (s s' : Book) (r : Walked) : Type 0 where
  pub stands : Stands n (seek (passes e n) list b) s s' r

-- a walk over the list of the book on a desk, which has that book again at the end
pub record WalksDesk (e n : ℕ) (list : Book → List Book) (b : ℕ) (desk store desk' store' : List ℕ) (r : Walked) : Type 0 where
  pub walks : Walks e n (list (blank (held desk))) b (held store) (held store') r
  pub back : blank (held desk') ≡ blank (held desk)

-- desk and store have their numbers, the book on the desk is one of actions at places, and the n + p + 1 choices have rows in one part
pub record Ready (n p : ℕ) (desk store : List ℕ) : Type 0 where
  pub rows : n + p < size
  pub desk_long : length desk ≡ desk_length
  pub store_room : store_length ≤ length store
  pub placing : Placing n (blank (held desk))

-- ---- a search

-- relations 7 to 17 are empty, all else stays
abbrev pub Cleared : Book → Book → Type 0
Cleared s s' = (j : ℕ) → s' j ≡ cond (leb 7 j && ltb j 18) never (s j)

-- the book found, with its relations; or relations 7 to 17 empty
abbrev pub Leaves : ℕ → List Book → Book → Book → Outcome → Type 0
Leaves n list s s' (Found k) = Laid n (get_or list (k - 1) nothing) s s'
Leaves n list s s' (None k) = Cleared s s'
Leaves n list s s' (Undecided k) = Cleared s s'

-- a search of a list with the budget b, by edition e
pub record Finds (e n : ℕ) (list : List Book) (b : ℕ) (s s' : Book) (r : Outcome) : Type 0 where
  pub answer : r ≡ outcome (passes e n) list b
  pub left : Leaves n list s s' r
