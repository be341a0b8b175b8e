-- What the first door takes, the second takes too where it is handed the same candidate; both give the same answer, store and order.
use Rattle.std.specs.Prelude.{ℕ, ◌≤◌, List, ◌≡◌, length, take, drop, Ok}
use Rattle.std.proofs.Common.{sym, ◌∙◌, take_at, drop_at, le-ltb}
use Rattle.model.specs.declared.Action.{Action}
use Rattle.model.specs.Limits.{store_length, order_length}
use Rattle.model.specs.Candidates.{Candidate}
use Rattle.model.specs.Judge.{judged_of}
use Rattle.model.specs.Store.{store_of}
use Rattle.model.specs.Laws.Stores.{store_length_lem}
use Rattle.model.specs.Refusals.{Answer, Good, Passed}
use Rattle.drawing.specs.Files.{candidate_of, read_of}
use Rattle.drawing.proofs.Laws.Good.{read_good}
use Rattle.drawing.proofs.Laws.Formed.{taken_formed, taken_within}
use Rattle.lists.proofs.Laws.Handed.{Handed, handed_taken}
use Rattle.judge.specs.Answers.{store_after, order_after, answer_by, store_by, order_by}
use Rattle.second.specs.Door.{door_check, Door}

-- two answers to the candidate X, with stores that held s and s₂ and order buffers that held o and o₂
pub record Agree (X : Candidate) (s s₂ o o₂ : List ℕ) (r r₂ : Answer) (s' s₂' o' o₂' : List ℕ) : Type 0 where
  pub answer : r ≡ r₂
  -- the same 4,608 numbers; the numbers beyond are each store's own
  pub store : take store_length s' ≡ take store_length s₂'
  pub beyond : drop store_length s' ≡ drop store_length s
  pub beyond₂ : drop store_length s₂' ≡ drop store_length s₂
  -- the same order, or none; the other bytes are each buffer's own
  pub order : o' ≡ order_after X o
  pub order₂ : o₂' ≡ order_after X o₂

-- a file with s and o through the first door; its candidate, as a list with s₂ and o₂, through the second
module _ (file s o : List ℕ) (acts : List Action) (places : List ℕ) (e n t p : ℕ) (s₂ o₂ : List ℕ) where
  -- where the file is taken, so is the list
  pub both_taken : {e₁ n₁ t₁ p₁ : ℕ} → read_of file s o ≡ Good e₁ n₁ t₁ p₁ → Handed (candidate_of file) acts places e n t p s₂ → order_length ≤ length o₂ → door_check acts places e n t p s₂ o₂ ≡ Passed
  unfolding door_check
  both_taken {e₁} {n₁} {t₁} {p₁} g h room =
      let taken = (read_good file (length s) (length o) e₁ n₁ t₁ p₁ g).0 in
      rw (le-ltb (length o₂) order_length room) (handed_taken (candidate_of file) acts places e n t p s₂ (taken_within file e₁ n₁ t₁ p₁ taken) (taken_formed file e₁ n₁ t₁ p₁ taken) h)

  -- and the answers agree
  pub doors_agree : {e₁ n₁ t₁ p₁ : ℕ} → read_of file s o ≡ Good e₁ n₁ t₁ p₁ → Handed (candidate_of file) acts places e n t p s₂ → order_length ≤ length o₂
      → (r r₂ : Answer) (s' s₂' o' o₂' : List ℕ)
      → r ≡ answer_by (read_of file s o) file → s' ≡ store_by (read_of file s o) file s → o' ≡ order_by (read_of file s o) file o
      → Door acts places e n t p s₂ o₂ r₂ s₂' o₂'
      → Agree (candidate_of file) s s₂ o o₂ r r₂ s' s₂' o' o₂'
  doors_agree g h room r r₂ s' s₂' o' o₂' er es eo d =
      let X = candidate_of file in
      let g₂ = both_taken g h room in
      let a : r ≡ Ok (judged_of X) = rw g at er in
      let b : s' ≡ store_after X s = rw g at es in
      let a₂ : r₂ ≡ Ok (judged_of X) = rw (g₂, h.same) at d.answer in
      let b₂ : s₂' ≡ store_after X s₂ = rw (g₂, h.same) at d.store in
      record {
        answer = a ∙ sym a₂;
        store = rw (b, b₂) (take_at (store_of X) (drop store_length s) store_length (store_length_lem X) ∙ sym (take_at (store_of X) (drop store_length s₂) store_length (store_length_lem X)));
        beyond = rw b (drop_at (store_of X) (drop store_length s) store_length (store_length_lem X));
        beyond₂ = rw b₂ (drop_at (store_of X) (drop store_length s₂) store_length (store_length_lem X));
        order = rw g at eo;
        order₂ = rw (g₂, h.same) at d.order;
      }
