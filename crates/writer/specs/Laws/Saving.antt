-- The writer's text is the file of the candidate; and what the writer keeps, a law for each way that it ends.
use Rattle.std.specs.Prelude.{ℕ, ◌+◌, ◌<◌, ◌≤◌, Bool, true, false, cond, List, [], ◌++◌, ◌≡◌, ltb, get_or, drop, Ok, Err}
use Rattle.std.proofs.Common.{append_assoc, ap, ◌∙◌}
use Rattle.std.proofs.Math.Path.{refl, sym}
use native.Mathlib.Omega.{arith}
use Rattle.std.proofs.Math.ListN.{length}
use Rattle.std.proofs.Math.Seq.{take-append_seam, drop-append_seam}
use borrow.Author.Tests.{lt-ltb, le-ltb, ltb-false}
use Rattle.rows.specs.Numbers.{joined}
use Rattle.rows.specs.Laws.Lists.{listed_at, joined_ext}
use Rattle.rows.proofs.Laws.Parts.{Words}
use Rattle.model.specs.declared.Action.{Action}
use Rattle.model.specs.Candidates.{Candidate, given, Values, Valued}
use Rattle.model.specs.Limits.{given_relations}
use Rattle.page.specs.Page.{page, Wrote}
use Rattle.page.specs.Laws.Pages.{wrote_whole}
use Rattle.model.specs.declared.refusals.Reason.{Reason}
use Rattle.model.specs.declared.refusals.Reason.TheVariants.{ShortBuffer}
use Rattle.model.specs.Refusals.{Checked, Passed, Refused, Saved, Walk}
use Rattle.model.proofs.Laws.Refusals.{same_refused}
use Rattle.drawing.specs.Files.{le, head_of, header_of, places_of, action_record, row_bytes, rows_length, relation_record, end_of, file_length, file_of, Fileable}
use Rattle.drawing.proofs.Laws.Standing.{file_length_lem}
use Rattle.drawing.proofs.Laws.Written.{written_good, written_same}
use Rattle.drawing.proofs.Laws.Again.{file_acts}
use Rattle.lists.specs.declared.Gathered.{Gathered}
use Rattle.lists.specs.Lists.{action_at, Stands, counted_check, list_check, row_in, rows_in, list_candidate}
use Rattle.lists.proofs.Laws.Taken.{counted_sized, counted_formed, given_rows}
use Rattle.lists.proofs.Laws.Stands.{same_acts, counted_same}
use Rattle.lists.proofs.Laws.Handed.{Handed, handed_taken}
use Rattle.writer.specs.Saves.{save_check, fitted, saved_by, Told, Saves, Save}

-- ---- the text, as it is written

-- a relation: what stands before its rows, then the rows from the store
pub relation_text_lem : (store : List ℕ) (n k : ℕ) → relation_record n k (rows_in store n k) ≡ (head_of 4 (2 + rows_length n n) ++ le 2 k) ++ joined n λ a. le (row_bytes n) (row_in store k a)
unfolding relation_record
relation_text_lem store n k =
    rw (joined_ext n (λ a. le (row_bytes n) (get_or (rows_in store n k) a 0)) (λ a. le (row_bytes n) (row_in store k a)) (λ a l. ap (le (row_bytes n)) (listed_at (row_in store k) n a 0 l)))
    (sym (append_assoc (head_of 4 (2 + rows_length n n)) (le 2 k) _))

-- the whole file: its relations are those in the store
pub file_text : (acts : List Action) (places : List ℕ) (e n t p : ℕ) (store : List ℕ)
    → file_of (list_candidate acts places e n t p store) ≡ header_of e n t p ++ (places_of p places ++ (joined n (λ i. action_record (action_at acts i)) ++ (joined given_relations (λ k. relation_record n k (rows_in store n k)) ++ end_of)))
unfolding file_of list_candidate
file_text acts places e n t p store =
    rw (joined_ext given_relations (λ k. relation_record n k (get_or (given (list_candidate acts places e n t p store)) k [])) (λ k. relation_record n k (rows_in store n k)) (λ k l. ap (relation_record n k) (given_rows acts places store e n t p k l)))

-- ---- the answer

-- a refusal leaves the buffer
refused_saves : (X : Candidate) (k : Reason) (at : ℕ) (o : List ℕ) → Saves (Refused k at) X o (Refused k at) o
refused_saves X k at o =
    record {
      answer = refl;
      out = refl;
      refused = λ k' at'. (λ f. let s = same_refused k k' at at' f in rw (s.0, s.1), λ f. let s = same_refused k k' at at' f in rw (s.0, s.1));
      kept = λ k' at' f. refl;
      taken = λ i f. let z : ◌≡◌ {A = ℕ} 0 1 = cc in absurd (omega arith);
      same = λ i f. let z : ◌≡◌ {A = ℕ} 0 1 = cc in absurd (omega arith);
      rest = λ i f. let z : ◌≡◌ {A = ℕ} 0 1 = cc in absurd (omega arith);
    }

-- a file that is written is read again
written_saves : (X : Candidate) → Fileable X → (o o' : List ℕ) (k : ℕ) → k ≡ length (file_of X) → o' ≡ file_of X ++ drop (length (file_of X)) o → Saves Passed X o (Ok k) o'
written_saves X y o o' k ek eo =
    rw (ek, eo)
    (record {
      answer = refl;
      out = refl;
      refused = λ k' at'. (λ f. let z : ◌≡◌ {A = ℕ} 0 1 = cc in absurd (omega arith), λ f. let z : ◌≡◌ {A = ℕ} 0 1 = cc in absurd (omega arith));
      kept = λ k' at' f. let z : ◌≡◌ {A = ℕ} 0 1 = cc in absurd (omega arith);
      taken = λ i f. let q : length (file_of X) ≡ i = cc in rw (← q, take-append_seam) (written_good X y);
      same = λ i f. let q : length (file_of X) ≡ i = cc in rw (← q, take-append_seam) (written_same X y);
      rest = λ i f. let q : length (file_of X) ≡ i = cc in rw (← q, drop-append_seam);
    })

module _ (acts : List Action) (g : Gathered) (stands : Stands acts g) (places : List ℕ) (e n t p : ℕ) (s o : List ℕ) where
  abbrev X : Candidate
  X = list_candidate acts places e n t p s

  -- the check of what was gathered is the list's
  list_check_lem : (w : Walk) → counted_check g.list g.count places e n t p s ≡ w → list_check acts places e n t p s ≡ w
  list_check_lem w told = sym (counted_same acts g stands places e n t p s) ∙ told

  -- refused by the check
  pub save_refused : (k : Reason) (at : ℕ) → counted_check g.list g.count places e n t p s ≡ Refused k at → Save acts places e n t p s o (Refused k at) o
  unfolding save_check
  save_refused k at told = rw (list_check_lem (Refused k at) told) (refused_saves X k at o)

  module _ (passed : counted_check g.list g.count places e n t p s ≡ Passed) where
    -- the file won't fit (9)
    pub save_short : length o < file_length n p → Save acts places e n t p s o (Refused ShortBuffer 0) o
    unfolding save_check
    save_short l = rw (list_check_lem Passed passed, lt-ltb (length o) (file_length n p) l) (refused_saves X ShortBuffer 0 o)

    -- the actions below N are the list's
    listed_acts : (i : ℕ) → i < n → action_at g.list i ≡ action_at acts i
    listed_acts = let z = counted_sized g.list g.count places e n t p s passed in same_acts acts g stands places e n t p s z.actions z.few_actions

    -- the file of what was gathered is the list's
    file_same : file_of (list_candidate g.list places e n t p s) ≡ file_of X
    unfolding list_candidate
    file_same = file_acts (list_candidate g.list places e n t p s) X refl refl refl refl refl listed_acts (λ k l. refl)

    -- and so are their values
    valued : ((i : ℕ) → Values (action_at g.list i)) → Valued X
    unfolding list_candidate
    valued v = record { each = λ a l. rw (← listed_acts a l) (v a) }

    -- the file is written
    pub save_written : (k r : ℕ) (o' : List ℕ) → Words s → ((i : ℕ) → Values (action_at g.list i)) → k ≡ file_length n p → k ≤ length o
        → Wrote k (page o 0) (file_of (list_candidate g.list places e n t p s)) (page o' r) → Save acts places e n t p s o (Ok k) o'
    unfolding save_check list_candidate
    save_written k r o' words v ek room w =
        let f = list_check_lem Passed passed in
        let y = counted_sized acts (length acts) places e n t p s f in
        let l : k ≡ length (file_of X) = ek ∙ sym (file_length_lem X y.bytes) in
        let formed = counted_formed acts places e n t p s words f in
        let whole = wrote_whole (rw file_same at w) (omega arith) (omega arith) in
        let in_room : file_length n p ≤ length o = omega arith in
        rw (f, le-ltb (length o) (file_length n p) in_room)
        (written_saves X (record { within = record { actions = y.few_actions; threads = y.few_threads; places = y.few_places }; valued = valued v; formed = formed }) o o' k l whole.0)

-- ---- a candidate that a file can hold

-- handed in, it is saved wherever its file fits
pub saved_handed : (Y : Candidate) (acts : List Action) (places : List ℕ) (e n t p : ℕ) (s : List ℕ) → Fileable Y → Handed Y acts places e n t p s → (o : List ℕ) (r : Saved) (o' : List ℕ) → Save acts places e n t p s o r o'
    → Told (cond (ltb (length o) (length (file_of Y))) (Refused ShortBuffer 0) Passed) (file_of Y) o r o'
unfolding save_check list_candidate
saved_handed Y acts places e n t p s f handed o r o' saved =
    let taken = handed_taken Y acts places e n t p s f.within f.formed handed in
    let long : length (file_of Y) ≡ file_length n p = ap (λ (Z : Candidate). length (file_of Z)) (sym handed.same) ∙ file_length_lem (list_candidate acts places e n t p s) (counted_sized acts (length acts) places e n t p s taken).bytes in
    let told = rw (taken, sym long, handed.same) at saved in
    (told.answer, told.out)

-- a length that is told fits the buffer
pub fitted_fits : (c : Checked) (made : List ℕ) (room k : ℕ) → Ok k ≡ saved_by (fitted c (length made) room) made → k ≤ room
fitted_fits (Ok _) made room k told = tested (ltb room (length made)) refl told
  where
    tested : (b : Bool) → ltb room (length made) ≡ b → Ok k ≡ saved_by (cond b (Refused ShortBuffer 0) Passed) made → k ≤ room
    tested true f e = let z : ◌≡◌ {A = ℕ} 0 1 = cc in absurd (omega arith)
    tested false f e = let q : k ≡ length made = cc in omega (arith, ltb-false room (length made) f)
fitted_fits (Err r) made room k told = let z : ◌≡◌ {A = ℕ} 0 1 = cc in absurd (omega arith)
