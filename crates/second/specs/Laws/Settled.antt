-- What a list that passed the check comes to, and the second door's answer.
use Rattle.std.specs.Prelude.{ℕ, ◌+◌, ◌*◌, ◌-◌, ◌<◌, ◌≤◌, ◌&&◌, List, [], ◌++◌, ◌≡◌, refl, T, leb, get_or, length, take, drop, Ok}
use Rattle.std.proofs.Math.Bool.{cond}
use Rattle.std.proofs.Common.{⊎_elim, ◌∙◌, arith, pow_pos, get_or-take, length-take-le, lt-ltb, le-ltb, le-leb}
use Rattle.std.proofs.Math.Path.{sym, ap}
use Rattle.std.proofs.Math.Dec.{ltb}
use Rattle.std.proofs.Math.ListN.{get_or-append, get_or-eq_default}
use borrow.Rule.Slice.PartMut.{put_mid}
use Rattle.rows.specs.Numbers.{rel, width, area, held}
use Rattle.rows.proofs.Laws.Parts.{Words, held_same}
use Rattle.rows.specs.Laws.Truth.{true_T, lt_or_le}
use Rattle.model.specs.declared.Action.{Action}
use Rattle.model.specs.declared.Judged.{Judged}
use Rattle.model.specs.Limits.{given_relations, all_relations, store_length, order_length}
use Rattle.model.specs.Candidates.{Candidate, given, well_formed}
use Rattle.model.specs.Words.{book_from}
use Rattle.model.specs.Model.{Book, filled}
use Rattle.model.specs.Judge.{book, judged_of, order_of}
use Rattle.model.specs.Store.{store_of}
use Rattle.model.specs.Laws.Stores.{store_is}
use Rattle.model.specs.declared.refusals.Reason.{Reason}
use Rattle.model.specs.declared.refusals.Reason.TheVariants.{ShortBuffer}
use Rattle.model.specs.Refusals.{Passed, Refused, Walk}
use Rattle.model.proofs.Laws.Refusals.{same_refused}
use Rattle.words.specs.Laws.Book.{book_acts, book_given}
use Rattle.words.specs.Laws.Sheet.{small_ok}
use Rattle.words.specs.Sheet.{Small}
use Rattle.judge.specs.declared.Seen.{Seen}
use Rattle.judge.specs.Answers.{Judges, Settles, store_after, order_after}
use Rattle.judge.specs.Laws.Judging.{store_parts, settled_lent}
use Rattle.judge.specs.Laws.Demands.{judgement_is}
use Rattle.lists.specs.declared.Gathered.{Gathered}
use Rattle.lists.specs.Lists.{action_at, Stands, counted_check, list_check, list_candidate}
use Rattle.lists.proofs.Laws.Taken.{counted_sized, counted_sound, counted_formed, held_given}
use Rattle.lists.proofs.Laws.Stands.{same_acts, counted_same}
use Rattle.second.specs.Door.{door_check, Answers, Door}

-- numbers at the front of a store are a store's
pub front_words : (s u : List ℕ) → Words (u ++ drop store_length s) → Words u
front_words s u w i = ⊎_elim
    (λ (l : i < length u). rw (get_or-append u (drop store_length s) 0 i l) at (w i))
    (λ (l : length u ≤ i). rw (get_or-eq_default u 0 l) (pow_pos width))
    (lt_or_le i (length u))

-- ---- the candidate of what was gathered

module _ (list : List Action) (c : ℕ) (places : List ℕ) (e n t p : ℕ) (store : List ℕ) (passed : counted_check list c places e n t p store ≡ Passed) where
  abbrev X : Candidate
  X = list_candidate list places e n t p store

  pub small_acts : (i : ℕ) → i < n → Small (action_at list i)
  small_acts i l =
      let g = counted_sized list c places e n t p store passed in
      small_ok t p (action_at list i) (omega (arith, g.few_threads)) g.few_places ((counted_sound list c places e n t p store passed).action i l)

  room : store_length ≤ length store
  room = (counted_sized list c places e n t p store passed).store_room

  module _ (words : Words store) where
    given_held : (k : ℕ) → k < given_relations → held store k ≡ rel (get_or (given X) k [])
    given_held = held_given list places store e n t p (counted_sized list c places e n t p store passed).few_actions words room (counted_sound list c places e n t p store passed)

    -- the store's own numbers
    abbrev front : List ℕ
    front = take store_length store

    pub front_held : (k : ℕ) → k < given_relations → held front k ≡ rel (get_or (given X) k [])
    front_held k l =
        let same : length front ≡ store_length = length-take-le store_length store room in
        held_same front store k k (le-leb (area * k + area) (length front) (omega arith) ∙ sym (le-leb (area * k + area) (length store) (omega (arith, room))))
        (λ m lm. get_or-take store_length store (area * k + m) 0 (omega arith))
        ∙ given_held k l

    book_is : filled n (book_from n list places (held front)) ≡ book X
    unfolding list_candidate
    book_is = ap (filled n) (book_given n list places (held front) (λ k. rel (get_or (given X) k [])) front_held)

    -- judged on these, and the store has them at its front
    pub list_settles : (u o o' : List ℕ) (r : Seen) → Words (put_mid 0 (store_length - 0) store u) → length u ≡ store_length
        → Judges e n (filled n (book_from n list places (held front))) (held front) (held u) o o' r → Settles X store (put_mid 0 (store_length - 0) store u) o o' r
    unfolding order_of list_candidate
    list_settles u o o' r w long j =
        let parts : (k : ℕ) → k < all_relations → held u k ≡ book X k = store_parts X (held front) (held u) front_held (λ k. j.store k ∙ ap (λ (ρ : Book). cond (leb 7 k && ltb k 18) (ρ k) (held front k)) book_is) in
        settled_lent X store u o o' r room
        (record {
          ruled = rw book_is at j.ruled;
          parts = parts;
          store = store_is X u (front_words store u w) long parts;
          order = rw book_is at j.order;
        })

-- ---- the answer

pub taken_answers : (X : Candidate) → T (well_formed X) → (s o : List ℕ) (j : Judged) (s' o' : List ℕ) → j ≡ judged_of X → s' ≡ store_after X s → o' ≡ order_after X o
    → Answers Passed X s o (Ok j) s' o'
taken_answers X W s o j s' o' ej es eo =
    rw (ej, es, eo)
    (record {
      answer = refl;
      store = refl;
      order = refl;
      refused = λ k at. (λ f. let z : ◌≡◌ {A = ℕ} 0 1 = cc in absurd (omega arith), λ f. let z : ◌≡◌ {A = ℕ} 0 1 = cc in absurd (omega arith));
      kept = λ k at f. let z : ◌≡◌ {A = ℕ} 0 1 = cc in absurd (omega arith);
      formed = λ i f. W;
      judged = λ i f. let q : judged_of X ≡ i = cc in rw (← q) (judgement_is X W s o);
    })

pub refused_answers : (X : Candidate) (k : Reason) (at : ℕ) (s o : List ℕ) → Answers (Refused k at) X s o (Refused k at) s o
refused_answers X k at s o =
    record {
      answer = refl;
      store = refl;
      order = refl;
      refused = λ k' at'. (λ f. let s = same_refused k k' at at' f in rw (s.0, s.1), λ f. let s = same_refused k k' at at' f in rw (s.0, s.1));
      kept = λ k' at' f. (refl, refl);
      formed = λ j f. let z : ◌≡◌ {A = ℕ} 0 1 = cc in absurd (omega arith);
      judged = λ j f. let z : ◌≡◌ {A = ℕ} 0 1 = cc in absurd (omega arith);
    }

-- the order buffer is too short
pub door_short : (acts : List Action) (places : List ℕ) (e n t p : ℕ) (s o : List ℕ) → length o < order_length → Door acts places e n t p s o (Refused ShortBuffer 0) s o
unfolding door_check
door_short acts places e n t p s o l = rw (lt-ltb (length o) order_length l) (refused_answers (list_candidate acts places e n t p s) ShortBuffer 0 s o)

module _ (acts : List Action) (g : Gathered) (stands : Stands acts g) (places : List ℕ) (e n t p : ℕ) (s o : List ℕ) (room : order_length ≤ length o) where
  -- the check of what was gathered is the door's
  door_check_lem : (w : Walk) → counted_check g.list g.count places e n t p s ≡ w → door_check acts places e n t p s o ≡ w
  unfolding door_check
  door_check_lem w told = rw (le-ltb (length o) order_length room) (sym (counted_same acts g stands places e n t p s) ∙ told)

  pub door_refused : (k : Reason) (at : ℕ) → counted_check g.list g.count places e n t p s ≡ Refused k at → Door acts places e n t p s o (Refused k at) s o
  door_refused k at told = rw (door_check_lem (Refused k at) told) (refused_answers (list_candidate acts places e n t p s) k at s o)

  pub door_taken : (r : Seen) (s' o' : List ℕ) → Words s → counted_check g.list g.count places e n t p s ≡ Passed → Settles (list_candidate g.list places e n t p s) s s' o o' r → Door acts places e n t p s o (Ok r.judged) s' o'
  unfolding list_candidate judged_of store_of order_of
  door_taken r s' o' words passed h =
      let f : list_check acts places e n t p s ≡ Passed = sym (counted_same acts g stands places e n t p s) ∙ passed in
      let z = counted_sized g.list g.count places e n t p s passed in
      let b : book (list_candidate g.list places e n t p s) ≡ book (list_candidate acts places e n t p s) =
      ap (filled n) (book_acts n g.list acts places _ (same_acts acts g stands places e n t p s z.actions z.few_actions)) in
      rw (door_check_lem Passed passed)
      (taken_answers (list_candidate acts places e n t p s) (true_T (counted_formed acts places e n t p s words f)) s o r.judged s' o'
      (rw b at h.ruled.judged)
      (rw b at h.store)
      (rw b at h.order))
