-- What the finder answers to the candidate of a good file, and the writer to what was found: the file of the first candidate that is passed. And what holds of every file that is made.
use Rattle.std.specs.Prelude.{ℕ, ◌+◌, ◌-◌, ◌*◌, ◌/◌, ◌%◌, ◌<◌, ◌≤◌, Bool, true, false, cond, List, [], ◌++◌, ◌≡◌, refl, ltb, length, take, drop, Ok, Err}
use Rattle.std.proofs.Common.{⊎_elim, ◌∙◌, length-append}
use Rattle.std.proofs.Math.Path.{sym, ap, fun_ext}
use native.Mathlib.Omega.{arith}
use Rattle.std.proofs.Math.ListN.{get_or, get_or-append}
use Rattle.std.proofs.Math.Seq.{take-append_seam}
use borrow.Author.Tests.{lt-ltb, le-ltb, ltb-false}
use Rattle.rows.specs.Sets.{Rel}
use Rattle.rows.specs.Numbers.{bit, listed, rel, width, digit, wide, size, area, held}
use Rattle.rows.proofs.Laws.Members.{member_is}
use Rattle.rows.proofs.Laws.Parts.{Words, held_out, held_at, held_number}
use Rattle.rows.specs.Laws.Truth.{lt_or_le, true_T}
use Rattle.model.specs.declared.Action.{Action}
use Rattle.model.specs.declared.Header.{Header}
use Rattle.model.specs.Actions.{no_action}
use Rattle.model.specs.declared.Verdict.TheVariants.{Passed as Clean}
use Rattle.model.specs.Limits.{most_actions, given_relations, store_length}
use Rattle.model.specs.Candidates.{Candidate, given, well_formed}
use Rattle.model.specs.Words.{book_of}
use Rattle.model.specs.Model.{Book}
use Rattle.model.specs.Judge.{judged_of}
use Rattle.model.specs.Store.{store_of}
use Rattle.model.specs.Laws.Stores.{book_as_given, store_length_lem, store_number, store_bit}
use Rattle.model.proofs.Laws.Verdicts.{is_passed_lem}
use Rattle.model.specs.declared.refusals.Reason.{Reason}
use Rattle.model.specs.declared.refusals.Reason.TheVariants.{ShortBuffer}
use Rattle.model.specs.Refusals.{Checked, Good, Passed, Refused, Saved, Walk}
use Rattle.drawing.specs.Files.{place_bytes, action_no, rows_of, candidate_with, candidate_of, check_of, file_of, Fileable}
use Rattle.drawing.proofs.Laws.LittleEndian.{Bytes}
use Rattle.drawing.proofs.Laws.Good.{good_taken, good_candidate}
use Rattle.drawing.proofs.Laws.Opened.{opened_actions, opened_places, opened_filled}
use Rattle.drawing.proofs.Laws.Formed.{places_lent, acts_lent, taken_formed, taken_within}
use Rattle.drawing.proofs.Laws.Prefix.{walks_same}
use Rattle.drawing.proofs.Laws.Stored.{filled_held}
use Rattle.drawing.proofs.Laws.Written.{written_same}
use Rattle.drawing.proofs.Laws.Again.{good_fileable}
use Rattle.lists.proofs.Laws.Handed.{Handed, handed_taken, file_handed, none_from, none_to, held_handed}
use Rattle.writer.specs.Saves.{saved_by, out_by as saved_out, Save}
use Rattle.writer.specs.Laws.Saving.{saved_handed}
use Rattle.choices.specs.declared.Outcome.{Outcome}
use Rattle.choices.specs.declared.Outcome.TheVariants.{Found, None as NoneOf, Undecided as Open}
use Rattle.choices.specs.Halves.{passed, completed, candidates}
use Rattle.choices.specs.Laws.Outcomes.{found_exactly}
use Rattle.choices.proofs.Laws.Halves.{books_of, completed_formed, found_completed}
use Rattle.finder.specs.Finding.{few_check, empty_check, half_check, counted_find_check, find_check, sought, candidate_no, finding_for, Keeps, Find, Finding}
use Rattle.completer.specs.Completes.{half_found, complete_check, file_no, completed_for, out_for, completed_by, out_by, Completed, Made}

-- what was saved of candidate k, as an answer
abbrev pub made_by : ℕ → Saved → Completed
made_by k (Err r) = Err r
made_by k (Ok l) = Made k l

-- ---- relations 0 to 6, in the book and in the store

module _ (X : Candidate) where
  -- relation k, as it is given
  abbrev relation : ℕ → Rel
  relation k = rel (get_or (given X) k [])

  -- of a store that holds them the finder's check finds the same of rf, sc and mo as of the candidate's own
  half_same : (s : List ℕ) → Words s → store_length ≤ length s → ((k : ℕ) → k < given_relations → held s k ≡ relation k) → half_check s ≡ half_check (store_of X)
  unfolding half_check empty_check
  half_same s words room holds =
      walks_same (empty_check s) (empty_check (store_of X)) 0 (area * 3) λ j l.
      let i = area * 4 + j in
      let k : i / area < given_relations = omega arith in
      let same : get_or s i 0 ≡ get_or (store_of X) i 0 =
      held_number s words i (omega arith)
      ∙ ap (λ (r : Rel). digit (r (i % area / wide)) (i % area % wide)) (holds (i / area) k ∙ sym (book_as_given X (i / area) k))
      ∙ sym (store_number X i (omega arith)) in
      rw same

  -- the candidate's own, at the front of what is lent, holds them
  store_held : well_formed X ≡ true → X.n ≤ most_actions → (s : List ℕ) (k : ℕ) → k < given_relations → held (store_of X ++ drop store_length s) k ≡ relation k
  store_held formed few s k l =
      let t = store_of X ++ drop store_length s in
      let front = store_length_lem X in
      fun_ext λ a. ⊎_elim
      (λ (m : a < size).
      held_at t k a m (omega (arith, length-append (store_of X) (drop store_length s)))
      ∙ member_is wide _ (relation k a) (λ b h. none_to X formed k a b l (omega arith)) (λ i b li lb.
      ap (λ (x : ℕ). bit x b) (get_or-append (store_of X) (drop store_length s) 0 (area * k + wide * a + i) (omega arith))
      ∙ store_bit X k a i b (omega arith) m li lb
      ∙ ap (λ (r : Rel). r a (width * i + b)) (book_as_given X k l)))
      (λ (m : size ≤ a). held_out t k a m ∙ sym (none_from X formed k a l (omega arith)))
      (lt_or_le a size)

-- ---- candidates that a file can hold

-- a candidate stays one when it is completed
completed_fileable : (X : Candidate) (σ : Book) → Fileable X → Fileable (completed X σ)
completed_fileable X σ f =
    record {
      within = record { actions = f.within.actions; threads = f.within.threads; places = f.within.places };
      valued = record { each = f.valued.each };
      formed = completed_formed X σ f.formed;
    }

-- it can be handed in with its own store at the front of what is lent
store_handed : (X : Candidate) → Fileable X → (s : List ℕ) → Words (store_of X ++ drop store_length s)
    → Handed X X.acts X.places X.edition X.n X.t X.p (store_of X ++ drop store_length s)
store_handed X f s words =
    held_handed X f (store_of X ++ drop store_length s) words (omega (arith, store_length_lem X, length-append (store_of X) (drop store_length s))) (store_held X f.formed f.within.actions s)

-- ---- the candidate that was found

-- the book of candidate k
abbrev book_no : Candidate → ℕ → Book
book_no X k = get_or (books_of X) (k - 1) (book_of X)

module _ (X : Candidate) (f : Fileable X) (b k : ℕ) (found : sought X b ≡ Found k) where
  -- a file can hold it
  found_fileable : Fileable (candidate_no X k)
  found_fileable = rw (found_completed X b k found) (completed_fileable X (book_no X k) f)

  -- and it can be handed in with its own store and all else from the drawing
  found_handed : (s s' : List ℕ) → s' ≡ store_of (candidate_no X k) ++ drop store_length s → Words s' → Handed (candidate_no X k) X.acts X.places X.edition X.n X.t X.p s'
  found_handed s s' left words =
      let Y = completed X (book_no X k) in
      let same = found_completed X b k found in
      let here : s' ≡ store_of Y ++ drop store_length s = left ∙ ap (λ (Z : Candidate). store_of Z ++ drop store_length s) same in
      rw (same, here) (store_handed Y (completed_fileable X (book_no X k) f) s (rw here at words))

-- ---- the answers

-- where the search answered, the check passed
sought_passed : (w : Walk) (X : Candidate) (b : ℕ) (u : Outcome) → Ok u ≡ finding_for w X b → (w ≡ Passed) × (sought X b ≡ u)
sought_passed (Ok _) X b u e = (refl, (cc))
sought_passed (Err r) X b u e = let z : ◌≡◌ {A = ℕ} 0 1 = cc in absurd (omega arith)

module _ (w : Walk) (X : Candidate) (b : ℕ) (s : List ℕ) (r : Finding) (s' : List ℕ) (keeps : Keeps w X b s r s') where
  -- what is told of a refusal,
  pub complete_refused : (k : Reason) (at : ℕ) → r ≡ Refused k at → (room : ℕ) (o : List ℕ) → (Refused k at ≡ completed_by w X b room) × (o ≡ out_by w X b o)
  complete_refused k at e room o = rw ((keeps.refused k at).1 e) (refl, refl)

  -- of what was sought,
  pub complete_sought : (u : Outcome) → r ≡ Ok u → (room : ℕ) (o : List ℕ) → (completed_for u X room ≡ completed_by w X b room) × (out_for u X o ≡ out_by w X b o)
  complete_sought u e room o = let told = sought_passed w X b u (sym e ∙ keeps.answer) in rw (told.0, told.1) (refl, refl)

-- and of what the writer saved or had no room for
saved_told : (Y : Candidate) (acts : List Action) (places : List ℕ) (e n t p : ℕ) (s : List ℕ) → Fileable Y → Handed Y acts places e n t p s → (k : ℕ) (o : List ℕ) (r : Saved) (o' : List ℕ) → Save acts places e n t p s o r o'
    → (made_by k r ≡ cond (ltb (length o) (length (file_of Y))) (Refused ShortBuffer 0) (Made k (length (file_of Y)))) × (o' ≡ cond (ltb (length o) (length (file_of Y))) o (file_of Y ++ drop (length (file_of Y)) o))
saved_told Y acts places e n t p s f handed k o r o' saved =
    let told = saved_handed Y acts places e n t p s f handed o r o' saved in
    by_room (ltb (length o) (length (file_of Y))) told.0 told.1
  where
    by_room : (short : Bool) → r ≡ saved_by (cond short (Refused ShortBuffer 0) Passed) (file_of Y) → o' ≡ saved_out (cond short (Refused ShortBuffer 0) Passed) (file_of Y) o
        → (made_by k r ≡ cond short (Refused ShortBuffer 0) (Made k (length (file_of Y)))) × (o' ≡ cond short o (file_of Y ++ drop (length (file_of Y)) o))
    by_room true answer out = (ap (made_by k) answer, out)
    by_room false answer out = (ap (made_by k) answer, out)

-- ---- a good file

module _ (file : List ℕ) (e n t p : ℕ) (bytes : Bytes file) (taken : check_of file ≡ Good e n t p) where
  abbrev X : Candidate
  X = candidate_of file

  -- its actions and place bytes, as they are lent
  abbrev Lent : (List Action → List ℕ → Type 0) → Type 0
  Lent P = P (take n (listed most_actions (action_no file n p))) (take (place_bytes + p - place_bytes) (drop place_bytes file))

  lent : (P : List Action → List ℕ → Type 0) → Lent P → P X.acts X.places
  lent P h = let g = good_taken file e n t p taken in rw (acts_lent file e n t p g, places_lent file e n t p g) h

  -- of a store that was filled from it the finder's check finds what the file's does
  module _ (s : List ℕ) (words : Words s) (room : store_length ≤ length s) (old : Book) (filled : (j : ℕ) → held s j ≡ cond (ltb j given_relations) (rel (rows_of file n p j)) (old j)) where
    handed : Handed X X.acts X.places e n t p s
    handed = file_handed file e n t p taken s words room (λ k l. filled k ∙ rw (lt-ltb k given_relations l))

    find_same : find_check X.acts X.places e n t p s ≡ complete_check file
    unfolding counted_find_check few_check
    find_same =
        rw
        (taken, le-ltb (length s) store_length room, handed_taken X X.acts X.places e n t p s (taken_within file e n t p taken) (taken_formed file e n t p taken) handed, half_same X s words room (filled_held file e n t p old (held s) taken filled))

    pub complete_find : (b : ℕ) (r : Finding) (s' : List ℕ) → Lent (λ acts places. Find acts places e n t p s b r s') → Keeps (complete_check file) X b s r s'
    complete_find b r s' found = rw (find_same, handed.same) at (lent (λ acts places. Find acts places e n t p s b r s') found)

  -- its edition, N, T and P are the candidate's
  sizes : (P : ℕ → ℕ → ℕ → ℕ → Type 0) → P X.edition X.n X.t X.p → P e n t p
  unfolding candidate_with
  sizes P h = rw (good_candidate file e n t p (good_taken file e n t p taken)) at h

  -- what the writer makes of the candidate that was found is the answer
  pub complete_saved : (b : ℕ) (s : List ℕ) (r : Finding) (s' : List ℕ) → Keeps (complete_check file) X b s r s' → (k : ℕ) → r ≡ Ok (Found k) → Words s' → (o : List ℕ) (q : Saved) (o' : List ℕ)
      → Lent (λ acts places. Save acts places e n t p s' o q o') → (made_by k q ≡ completed_by (complete_check file) X b (length o)) × (o' ≡ out_by (complete_check file) X b o)
  complete_saved b s r s' keeps k answered words o q o' saved =
      let told = complete_sought (complete_check file) X b s r s' keeps (Found k) answered (length o) o in
      let found = (sought_passed (complete_check file) X b (Found k) (sym answered ∙ keeps.answer)).1 in
      let f = good_fileable file e n t p bytes taken in
      let z =
      saved_told (candidate_no X k) X.acts X.places e n t p s' (found_fileable X f b k found)
      (sizes (λ e n t p. Handed (candidate_no X k) X.acts X.places e n t p s') (found_handed X f b k found s s' (keeps.left k answered).0 words))
      k o q o' (lent (λ acts places. Save acts places e n t p s' o q o') saved) in
      (z.0 ∙ told.0, z.1 ∙ told.1)

-- ---- an open drawing, by what is lent of it

module _ (file : List ℕ) (h : Header) (bytes : Bytes file) (good : check_of file ≡ Ok h) (acts : List Action) (places : List ℕ) (head : Header)
    (same_acts : acts ≡ listed most_actions (λ i. get_or (candidate_of file).acts i no_action)) (same_places : places ≡ (candidate_of file).places) (same_head : head ≡ h) where
  -- what the finder answers to it
  pub open_find : (s : List ℕ) → Words s → store_length ≤ length s → (old : Book) → ((j : ℕ) → held s j ≡ cond (ltb j given_relations) (rel (get_or (given (candidate_of file)) j [])) (old j))
      → (b : ℕ) (r : Finding) (s' : List ℕ) → Find (take head.n acts) places head.edition head.n head.t head.p s b r s' → Keeps (complete_check file) (candidate_of file) b s r s'
  open_find s words room old filled b r s' found =
      complete_find file h.edition h.n h.t h.p bytes good s words room old (opened_filled file h good old (held s) filled) b r s'
      (rw (same_acts ∙ sym (opened_actions file h good), same_places ∙ sym (opened_places file h good), same_head) at found)

  -- and the writer to what was found
  pub open_saved : (b : ℕ) (s : List ℕ) (r : Finding) (s' : List ℕ) → Keeps (complete_check file) (candidate_of file) b s r s' → (k : ℕ) → r ≡ Ok (Found k) → Words s' → (o : List ℕ) (q : Saved) (o' : List ℕ)
      → Save (take head.n acts) places head.edition head.n head.t head.p s' o q o'
      → (made_by k q ≡ completed_by (complete_check file) (candidate_of file) b (length o)) × (o' ≡ out_by (complete_check file) (candidate_of file) b o)
  open_saved b s r s' keeps k answered words o q o' saved =
      complete_saved file h.edition h.n h.t h.p bytes good b s r s' keeps k answered words o q o'
      (rw (same_acts ∙ sym (opened_actions file h good), same_places ∙ sym (opened_places file h good), same_head) at saved)

-- ---- a file that is made

-- candidate k was found, and its file fits
record Told (w : Walk) (X : Candidate) (b room k l : ℕ) : Type 0 where
  passes : w ≡ Passed
  found : sought X b ≡ Found k
  long : l ≡ length (file_no X k)
  fits : l ≤ room

made_tells : (w : Walk) (X : Candidate) (b room k l : ℕ) → completed_by w X b room ≡ Made k l → Told w X b room k l
made_tells (Err r) X b room k l e = let z : ◌≡◌ {A = ℕ} 0 1 = cc in absurd (omega arith)
made_tells (Ok _) X b room k l e = answered (sought X b) refl e
  where
    tested : (i : ℕ) → sought X b ≡ Found i → (short : Bool) → ltb room (length (file_no X i)) ≡ short → cond short (Refused ShortBuffer 0) (Made i (length (file_no X i))) ≡ Made k l → Told Passed X b room k l
    tested i f true q e = let z : ◌≡◌ {A = ℕ} 0 1 = cc in absurd (omega arith)
    tested i f false q e =
        let same : i ≡ k = cc in
        let long : length (file_no X i) ≡ l = cc in
        record { passes = refl; found = rw same at f; long = rw same at (sym long); fits = omega (arith, ltb-false room (length (file_no X i)) q) }

    answered : (u : Outcome) → sought X b ≡ u → completed_for u X room ≡ Made k l → Told Passed X b room k l
    answered (Found i) f e = tested i f (ltb room (length (file_no X i))) refl e
    answered (NoneOf i) f e = let z : ◌≡◌ {A = ℕ} 0 1 = cc in absurd (omega arith)
    answered (Open i) f e = let z : ◌≡◌ {A = ℕ} 0 1 = cc in absurd (omega arith)

-- a length that is told fits the buffer
pub made_fits : (w : Walk) (X : Candidate) (b room k l : ℕ) → Made k l ≡ completed_by w X b room → l ≤ room
made_fits w X b room k l e = (made_tells w X b room k l (sym e)).fits

-- its file is read again, and the candidate that was found is passed
found_passed : (w : Walk) (X : Candidate) → Fileable X → (b k l : ℕ) (out : List ℕ) → Told w X b (length out) k l → (judged_of (candidate_of (take l (out_by w X b out)))).verdict ≡ Clean
unfolding passed
found_passed w X f b k l out told =
    let y = found_fileable X f b k told.found in
    let room : length (file_no X k) ≤ length out = omega (arith, told.long, told.fits) in
    rw
    (told.passes, told.found, told.long, le-ltb (length out) (length (file_no X k)) room, take-append_seam, written_same (candidate_no X k) y)
    (is_passed_lem (judged_of (candidate_no X k)).verdict (true_T ((found_exactly passed (candidates X) X b k).0 told.found).0.passed))

-- What was found is passed when it is judged.
pub made_passed : (file : List ℕ) → Bytes file → (b k l : ℕ) (out : List ℕ) → completed_by (complete_check file) (candidate_of file) b (length out) ≡ Made k l
    → (judged_of (candidate_of (take l (out_by (complete_check file) (candidate_of file) b out)))).verdict ≡ Clean
made_passed file bytes b k l out e =
    let told = made_tells (complete_check file) (candidate_of file) b (length out) k l e in
    found_passed (complete_check file) (candidate_of file) (good (check_of file) refl told.passes) b k l out told
  where
    good : (c : Checked) → check_of file ≡ c → half_found c (candidate_of file) ≡ Passed → Fileable (candidate_of file)
    good (Ok g) taken h = good_fileable file g.edition g.n g.t g.p bytes taken
    good (Err r) taken h = let z : ◌≡◌ {A = ℕ} 0 1 = cc in absurd (omega arith)
