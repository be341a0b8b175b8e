-- The second door: its check, and what the answer to a candidate handed in as a list keeps.
use Rattle.std.specs.Prelude.{ℕ, cond, List, ◌↔◌, ◌≡◌, T, ltb, length, Ok, Err}
use Rattle.model.specs.declared.Action.{Action}
use Rattle.model.specs.declared.Judged.{Judged}
use Rattle.model.specs.Limits.{order_length}
use Rattle.model.specs.Candidates.{Candidate, well_formed}
use Rattle.model.specs.Judge.{judged_of}
use Rattle.model.specs.declared.refusals.Reason.{Reason}
use Rattle.model.specs.declared.refusals.Reason.TheVariants.{ShortBuffer}
use Rattle.model.specs.Refusals.{Answer, Refused, Walk}
use Rattle.lists.specs.Lists.{list_check, list_candidate}
use Rattle.judge.specs.Answers.{Judgement, store_after, order_after}

-- an order buffer of fewer than 128 bytes (9), then the list
unfoldable pub door_check : List Action → List ℕ → ℕ → ℕ → ℕ → ℕ → List ℕ → List ℕ → Walk
door_check acts places e n t p store order = cond (ltb (length order) order_length) (Refused ShortBuffer 0) (list_check acts places e n t p store)

-- ---- the answer, the store and the order buffer

abbrev pub answer_for : Walk → Candidate → Answer
answer_for (Ok _) X = Ok (judged_of X)
answer_for (Err r) X = Err r

abbrev pub store_for : Walk → Candidate → List ℕ → List ℕ
store_for (Ok _) X store = store_after X store
store_for (Err r) X store = store

abbrev pub order_for : Walk → Candidate → List ℕ → List ℕ
order_for (Ok _) X order = order_after X order
order_for (Err r) X order = order

-- what the second door keeps, of a check's finding w and the candidate X
pub record Answers (w : Walk) (X : Candidate) (s o : List ℕ) (r : Answer) (s' o' : List ℕ) : Type 0 where
  pub answer : r ≡ answer_for w X
  pub store : s' ≡ store_for w X s
  pub order : o' ≡ order_for w X o
  -- Malformed input gets one numbered refusal with its position by the fixed order of checks,
  pub refused : (k : Reason) (at : ℕ) → (w ≡ Refused k at) ↔ (r ≡ Refused k at)
  -- and lent memory keeps what it held.
  pub kept : (k : Reason) (at : ℕ) → r ≡ Refused k at → (s' ≡ s) × (o' ≡ o)
  -- Any other input is a well-formed candidate and is judged.
  pub formed : (j : Judged) → r ≡ Ok j → T (well_formed X)
  pub judged : (j : Judged) → r ≡ Ok j → Judgement X j s s' o o'

-- the second door's answer to what was handed in
abbrev pub Door : List Action → List ℕ → ℕ → ℕ → ℕ → ℕ → List ℕ → List ℕ → Answer → List ℕ → List ℕ → Type 0
Door acts places e n t p s o r s' o' = Answers (door_check acts places e n t p s o) (list_candidate acts places e n t p s) s o r s' o'
