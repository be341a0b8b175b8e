-- The finder's answer: what a check that refuses comes to, and what a search after one that passed.
use Rattle.std.specs.Prelude.{ℕ, ◌-◌, true, List, ◌≡◌, refl, T, length, get_or, Ok}
use Rattle.std.proofs.Common.{sym, ◌∙◌, arith}
use Rattle.std.proofs.Math.Path.{ap}
use Rattle.rows.proofs.Laws.Parts.{Words}
use Rattle.rows.specs.Laws.Truth.{true_T}
use Rattle.model.specs.declared.Action.{Action}
use Rattle.model.specs.Candidates.{Candidate, well_formed}
use Rattle.model.specs.Words.{book_of}
use Rattle.model.specs.declared.refusals.Reason.{Reason}
use Rattle.model.specs.Refusals.{Passed, Refused, Walk}
use Rattle.model.proofs.Laws.Refusals.{same_refused}
use Rattle.drawing.specs.Files.{then}
use Rattle.lists.specs.declared.Gathered.{Gathered}
use Rattle.lists.specs.Lists.{Stands, list_candidate}
use Rattle.lists.proofs.Laws.Stands.{counted_same}
use Rattle.lists.proofs.Laws.Taken.{counted_formed}
use Rattle.choices.specs.declared.Outcome.{Outcome}
use Rattle.choices.specs.declared.Outcome.TheVariants.{Found}
use Rattle.choices.specs.Halves.{passed, candidates}
use Rattle.choices.specs.Laws.Outcomes.{found_exactly, none_exactly, undecided_exactly}
use Rattle.choices.proofs.Laws.Halves.{books_of, completed_formed, found_completed}
use Rattle.finder.specs.Finding.{Finding, few_check, half_check, counted_find_check, find_check, sought, candidate_no, store_left, Searched, Keeps, Find}
use Rattle.finder.specs.Laws.Searching.{find_halved}

-- ---- the answer to a drawing

-- a refusal is no search
apart : (k : Reason) (at : ℕ) (o : Outcome) → ◌≡◌ {A = Finding} (Refused k at) (Ok o) → ⊥
apart k at o f = let z : ◌≡◌ {A = ℕ} 0 1 = cc in omega arith

-- a refusal keeps what is lent
refused_keeps : (X : Candidate) (b : ℕ) (k : Reason) (at : ℕ) (s : List ℕ) → Keeps (Refused k at) X b s (Refused k at) s
refused_keeps X b k at s =
    record {
      answer = refl;
      store = refl;
      refused = λ k' at'. (λ f. let z = same_refused k k' at at' f in rw (z.0, z.1), λ f. let z = same_refused k k' at at' f in rw (z.0, z.1));
      kept = λ k' at' f. refl;
      formed = λ o f. absurd (apart k at o f);
      found = λ o f. absurd (apart k at o f);
      left = λ k' f. absurd (apart k at (Found k') f);
      none = λ o f. absurd (apart k at o f);
      undecided = λ o f. absurd (apart k at o f);
    }

module _ (X : Candidate) (formed : well_formed X ≡ true) (b : ℕ) where
  -- the candidate that is found is well-formed, as the drawing is
  found_formed : (k : ℕ) → sought X b ≡ Found k → T (well_formed (candidate_no X k))
  found_formed k e = rw (found_completed X b k e) (true_T (completed_formed X (get_or (books_of X) (k - 1) (book_of X)) formed))

  -- a search leaves what it found
  searched_keeps : (s s' : List ℕ) (r : Outcome) → Searched X b s s' r → Keeps Passed X b s (Ok r) s'
  searched_keeps s s' r h =
      record {
        answer = ap (λ (o : Outcome). Ok o) h.answer;
        store = h.store ∙ ap (λ (o : Outcome). store_left o X s) h.answer;
        refused = λ k at. (λ f. let z : ◌≡◌ {A = ℕ} 0 1 = cc in absurd (omega arith), λ f. absurd (apart k at r (sym f)));
        kept = λ k at f. absurd (apart k at r (sym f));
        formed = λ o f. true_T formed;
        found = λ o f k. rw (← same o f) (found_exactly passed (candidates X) X b k);
        left = λ k f. let q : r ≡ Found k = cc in (rw q at h.store, found_formed k (same (Found k) f));
        none = λ o f k. rw (← same o f) (none_exactly passed (candidates X) X b k);
        undecided = λ o f k. rw (← same o f) (undecided_exactly passed (candidates X) X b k);
      }
    where
      same : (o : Outcome) → ◌≡◌ {A = Finding} (Ok r) (Ok o) → sought X b ≡ o
      same o f = let q : r ≡ o = cc in sym h.answer ∙ q

-- ---- of a list, and what was gathered of it

module _ (acts : List Action) (g : Gathered) (stands : Stands acts g) (places : List ℕ) (e n t p : ℕ) (s : List ℕ) (b : ℕ) where
  -- the check of what was gathered is the list's
  find_check_lem : (w : Walk) → counted_find_check g.list g.count places e n t p s ≡ w → find_check acts places e n t p s ≡ w
  unfolding counted_find_check
  find_check_lem w told =
      ap (λ (v : Walk). then (few_check e n (length s)) (then v (half_check s))) (sym (counted_same acts g stands places e n t p s)) ∙ told

  pub find_refused : (k : Reason) (at : ℕ) → counted_find_check g.list g.count places e n t p s ≡ Refused k at → Find acts places e n t p s b (Refused k at) s
  find_refused k at told = rw (find_check_lem (Refused k at) told) (refused_keeps (list_candidate acts places e n t p s) b k at s)

  -- a list that passed the check is well-formed
  drawing_formed : Words s → find_check acts places e n t p s ≡ Passed → well_formed (list_candidate acts places e n t p s) ≡ true
  drawing_formed words f = counted_formed acts places e n t p s words (find_halved acts (length acts) places e n t p s f).counted

  pub find_sought : (r : Outcome) (s' : List ℕ) → Words s → counted_find_check g.list g.count places e n t p s ≡ Passed → Searched (list_candidate acts places e n t p s) b s s' r → Find acts places e n t p s b (Ok r) s'
  find_sought r s' words told h =
      let f = find_check_lem Passed told in
      rw f (searched_keeps (list_candidate acts places e n t p s) (drawing_formed words f) b s s' r h)
