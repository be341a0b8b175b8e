-- The answer of a search over a list within a budget, and what each answer says. Definitions only.
use Rattle.std.specs.Prelude.{ℕ, suc, ◌+◌, ◌-◌, ◌<◌, ◌≤◌, Bool, true, false, cond, List, [], ◌∷◌, ◌≡◌, ltb, leb, length, get_or}
use Rattle.choices.specs.declared.Outcome.{Outcome}
use Rattle.choices.specs.declared.Outcome.TheVariants.{Found, None, Undecided}

-- where the first one passed stands in the list, counted from 0; the list's length if none is passed
unfoldable pub place : {A : Type 0} → (A → Bool) → List A → ℕ
place f [] = 0
place f (x ∷ xs) = cond (f x) 0 (suc (place f xs))

-- Answer with the first candidate passed; or none, if the budget covers the list and none in it passes; or undecided, if the budget is below the list's length and every candidate within it fails.
-- The count returned is the number of candidates judged, equal to the found one's place in the list counted from 1, or the list's length for none, or the budget for undecided.
unfoldable pub outcome : {A : Type 0} → (A → Bool) → List A → ℕ → Outcome
outcome f xs b =
    cond (ltb (place f xs) (length xs))
    (cond (ltb (place f xs) b) (Found (place f xs + 1)) (Undecided b))
    (cond (leb (length xs) b) (None (length xs)) (Undecided b))

-- ---- in the reader's words; d is what stands past the list's end

-- the first m of the list all fail
abbrev pub Fail : {A : Type 0} → (A → Bool) → List A → A → ℕ → Type 0
Fail f xs d m = (i : ℕ) → i < m → f (get_or xs i d) ≡ false

-- the first one passed has place k in the list, counted from 1
pub record First {A : Type 0} (f : A → Bool) (xs : List A) (d : A) (k : ℕ) : Type 0 where
  pub counted : 1 ≤ k
  pub inside : k ≤ length xs
  pub passed : f (get_or xs (k - 1) d) ≡ true
  pub fail : Fail f xs d (k - 1)
