-- The finder's door: its check, its answer, and what the answer keeps. Definitions only.
use Rattle.std.specs.Prelude.{ℕ, ◌+◌, ◌-◌, ◌*◌, ◌<◌, ◌≤◌, cond, List, ◌++◌, ◌↔◌, ◌≡◌, T, eqb, ltb, length, get_or, take, drop, Result, Ok, Err}
use Rattle.rows.specs.Sets.{Rel, both, when}
use Rattle.rows.specs.Numbers.{area, listed}
use Rattle.model.specs.declared.Action.{Action}
use Rattle.model.specs.Limits.{newest_edition, given_length, store_length}
use Rattle.model.specs.Candidates.{Candidate, edition_ok, well_formed}
use Rattle.model.specs.Model.{Book, read, write, at_atomic, sc_action, same_place}
use Rattle.model.specs.declared.refusals.Reason.{Reason}
use Rattle.model.specs.declared.refusals.Refusal.{Refusal}
use Rattle.model.specs.declared.refusals.Reason.TheVariants.{UnknownEdition, AboveLimit, ShortBuffer, NotEmpty}
use Rattle.model.specs.Refusals.{Passed, Refused, Walk}
use Rattle.drawing.specs.Files.{then, walks}
use Rattle.lists.specs.Lists.{counted_check, list_candidate}
use Rattle.judge.specs.Answers.{store_after}
use Rattle.choices.specs.declared.Outcome.{Outcome}
use Rattle.choices.specs.declared.Outcome.TheVariants.{Found, None, Undecided}
use Rattle.choices.specs.Outcomes.{outcome, Fail, First}
use Rattle.choices.specs.Halves.{passed, candidates}

-- ---- the check: 9, 4, 5, 3, 6, 7, 11 as the second door has them, but N at most 8; then 12

-- N at most 8
abbrev pub most_searched : ℕ
most_searched = 8

-- a store of fewer than 4,608 numbers (9); edition none of 1 to the newest (4); N above 8 (5)
unfoldable pub few_check : ℕ → ℕ → ℕ → Walk
few_check e n store =
    cond (ltb store store_length) (Refused ShortBuffer 0)
    (cond (edition_ok newest_edition e)
    (cond (ltb most_searched n) (Refused AboveLimit 0) Passed)
    (Refused UnknownEdition 0))

-- number i of rf, sc and mo is not zero (12)
unfoldable pub empty_check : List ℕ → ℕ → Walk
empty_check store i = cond (eqb (get_or store (area * 4 + i) 0) 0) Passed (Refused NotEmpty 0)

-- If any of the three isn't empty at entry, refusal 12, tested last, position 0.
unfoldable pub half_check : List ℕ → Walk
half_check store = walks (empty_check store) 0 (area * 3)

-- the whole check, of a list with c actions
unfoldable pub counted_find_check : List Action → ℕ → List ℕ → ℕ → ℕ → ℕ → ℕ → List ℕ → Walk
counted_find_check acts c places e n t p store =
    then (few_check e n (length store)) (then (counted_check acts c places e n t p store) (half_check store))

abbrev pub find_check : List Action → List ℕ → ℕ → ℕ → ℕ → ℕ → List ℕ → Walk
find_check acts places e n t p store = counted_find_check acts (length acts) places e n t p store

-- ---- the answer and the store

-- what the search answered, or a refusal
abbrev pub Finding : Type 0
Finding = Result Outcome Refusal

-- the search of the list of candidates, within the budget
abbrev pub sought : Candidate → ℕ → Outcome
sought X b = outcome passed (candidates X) b

-- candidate k of the list, counted from 1
abbrev pub candidate_no : Candidate → ℕ → Candidate
candidate_no X k = get_or (candidates X) (k - 1) X

-- the three relations are as they were, empty, and the derived ones zero; the numbers beyond stay
abbrev pub store_cleared : List ℕ → List ℕ
store_cleared store = take given_length store ++ (listed (store_length - given_length) (λ _. 0) ++ drop store_length store)

-- the found candidate's relations
abbrev pub store_left : Outcome → Candidate → List ℕ → List ℕ
store_left (Found k) X store = store_after (candidate_no X k) store
store_left (None k) X store = store_cleared store
store_left (Undecided k) X store = store_cleared store

-- what a search of X with the budget b comes to
pub record Searched (X : Candidate) (b : ℕ) (s s' : List ℕ) (r : Outcome) : Type 0 where
  pub answer : r ≡ sought X b
  pub store : s' ≡ store_left r X s

abbrev pub finding_for : Walk → Candidate → ℕ → Finding
finding_for (Ok _) X b = Ok (sought X b)
finding_for (Err r) X b = Err r

abbrev pub store_for : Walk → Candidate → ℕ → List ℕ → List ℕ
store_for (Ok _) X b store = store_left (sought X b) X store
store_for (Err r) X b store = store

-- what the finder keeps, of a check's finding w, the drawing X and the budget b
pub record Keeps (w : Walk) (X : Candidate) (b : ℕ) (s : List ℕ) (r : Finding) (s' : List ℕ) : Type 0 where
  pub answer : r ≡ finding_for w X b
  pub store : s' ≡ store_for w X b s
  -- Malformed input gets one numbered refusal with its position by the fixed order of checks,
  pub refused : (k : Reason) (at : ℕ) → (w ≡ Refused k at) ↔ (r ≡ Refused k at)
  -- and lent memory keeps what it held.
  pub kept : (k : Reason) (at : ℕ) → r ≡ Refused k at → s' ≡ s
  -- Any other input is a well-formed candidate.
  pub formed : (o : Outcome) → r ≡ Ok o → T (well_formed X)
  -- Found, with k: candidate k of the list is the first that is passed, and the budget is k or more;
  pub found : (o : Outcome) → r ≡ Ok o → (k : ℕ) → (o ≡ Found k) ↔ (First passed (candidates X) X k × (k ≤ b))
  -- its relations are left in the store, and it is well-formed.
  pub left : (k : ℕ) → r ≡ Ok (Found k) → (s' ≡ store_after (candidate_no X k) s) × T (well_formed (candidate_no X k))
  -- None, exactly if the budget covers the list and none in it passes; the count is the list's length.
  pub none : (o : Outcome) → r ≡ Ok o → (k : ℕ) → (o ≡ None k) ↔ (Fail passed (candidates X) X (length (candidates X)) × (length (candidates X) ≤ b) × (k ≡ length (candidates X)))
  -- Undecided, exactly if the budget is below the list's length and every candidate within it fails; the count is the budget.
  pub undecided : (o : Outcome) → r ≡ Ok o → (k : ℕ) → (o ≡ Undecided k) ↔ (Fail passed (candidates X) X b × (b < length (candidates X)) × (k ≡ b))

-- the finder's answer to what was handed in
abbrev pub Find : List Action → List ℕ → ℕ → ℕ → ℕ → ℕ → List ℕ → ℕ → Finding → List ℕ → Type 0
Find acts places e n t p s b r s' = Keeps (find_check acts places e n t p s) (list_candidate acts places e n t p s) b s r s'

-- ---- the plan, from the book on the desk and the actions at each place

-- row i: of a read the writes of its place; of an atomic place its writes; the SC actions
unfoldable pub plan_row : ℕ → ℕ → Book → Rel → Rel
plan_row n p ρ at i =
    cond (ltb i n) (when (read n ρ i) (both (write n ρ) (same_place n ρ i)))
    (cond (ltb i (n + p)) (both (at (i - n)) (both (write n ρ) (at_atomic n ρ)))
    (sc_action n ρ))
