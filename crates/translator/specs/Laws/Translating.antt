-- What is told of a file's text and of a text's file, and what the buffer holds then.
use Rattle.std.specs.Prelude.{ℕ, ◌<◌, ◌≤◌, true, cond, List, [], ◌≡◌, refl, ltb, length, get_or, Option, ok_or, Err}
use Rattle.std.proofs.Common.{⊎_elim, ◌∙◌, lt-ltb, le-ltb, le-leb}
use Rattle.std.proofs.Math.Path.{sym, ap}
use Rattle.std.proofs.lemmas.Bool.{lt-leb}
use Rattle.rows.specs.Sets.{Rel}
use Rattle.rows.specs.Numbers.{rel, held}
use Rattle.rows.specs.Laws.Truth.{lt_or_le}
use Rattle.model.specs.declared.Action.{Action}
use Rattle.model.specs.Limits.{given_relations}
use Rattle.model.specs.Candidates.{Candidate, given}
use Rattle.page.specs.Page.{Offered}
use Rattle.model.specs.declared.refusals.Refusal.{Refusal}
use Rattle.model.specs.declared.refusals.Reason.TheVariants.{ShortBuffer}
use Rattle.model.specs.Refusals.{Good, Passed, Refused, Saved}
use Rattle.drawing.specs.Files.{rows_of, candidate_with, check_of}
use Rattle.drawing.proofs.Laws.Good.{good_taken, good_candidate}
use Rattle.drawing.proofs.Laws.Formed.{acts_at, places_at}
use Rattle.drawing.proofs.Laws.Stored.{filled_held}
use Rattle.lists.proofs.Laws.Handed.{Handed}
use Rattle.writer.specs.Saves.{Told, Save}
use Rattle.writer.specs.Laws.Saving.{saved_handed}
use Rattle.text.specs.Texts.{text_of, candidate_in, begin_check, lines_check, text_check, begun}
use Rattle.text.proofs.Laws.Sound.{text_ext}
use Rattle.text.proofs.Laws.Taken.{text_fileable}
use Rattle.translator.specs.Translates.{text_of_file, text_check_of, file_of_text, file_check_of, text_from}
use Rattle.translator.specs.Laws.Round.{passed_good}
use Rattle.translator.specs.Laws.Reading.{begun_bad}

-- ---- the text of a file

-- what was offered, as an answer
abbrev pub saved_for : Option ℕ → Saved
saved_for w = ok_or w (record { reason = ShortBuffer; at = 0 })

offered_told : (text o o' : List ℕ) (w : Option ℕ) → Offered true text o o' w → Told (cond (ltb (length o) (length text)) (Refused ShortBuffer 0) Passed) text o (saved_for w) o'
offered_told text o o' w h = ⊎_elim
    (λ (l : length o < length text).
    let short = lt-leb (length text) (length o) l in
    rw (lt-ltb (length o) (length text) l) (ap saved_for (rw short at h.answer), rw short at h.buffer))
    (λ (l : length text ≤ length o).
    let fits = le-leb (length text) (length o) l in
    rw (le-ltb (length o) (length text) l) (ap saved_for (rw fits at h.answer), rw fits at h.buffer))
    (lt_or_le (length o) (length text))

module _ (file : List ℕ) (e n t p : ℕ) (taken : check_of file ≡ Good e n t p) (s : List ℕ) (old : ℕ → Rel) (filled : (j : ℕ) → held s j ≡ cond (ltb j given_relations) (rel (rows_of file n p j)) (old j)) where
  -- the text from a good file and the store that was filled from it is the text of its candidate
  file_text : text_from file s e n t p ≡ text_of_file file
  unfolding text_of candidate_with
  file_text =
      let same = good_candidate file e n t p (good_taken file e n t p taken) in
      text_ext e n t p _ _ _ _ _ _
      (λ i l. sym (places_at file e n t p i l))
      (λ i l. sym (acts_at file e n t p i l))
      (λ k a b h i j. ap (λ (r : Rel). r a b) (filled_held file e n t p old (held s) taken filled k h ∙ ap (λ (X : Candidate). rel (get_or (given X) k [])) same))
      ∙ ap text_of (sym same)

  -- it is told, or has no room
  pub text_saved : (o o' : List ℕ) (w : Option ℕ) → Offered true (text_from file s e n t p) o o' w → Told (text_check_of file (length o)) (text_of_file file) o (saved_for w) o'
  text_saved o o' w h = rw taken (offered_told (text_of_file file) o o' w (rw file_text at h))

-- ---- the file of a text

module _ (s : List ℕ) where
  abbrev FileTold : List ℕ → Saved → List ℕ → Type 0
  FileTold o r o' = Told (file_check_of s (length o)) (file_of_text s) o r o'

  -- a refusal is told,
  pub lines_refused : (r : Refusal) (o : List ℕ) → lines_check s ≡ Err r → FileTold o (Err r) o
  unfolding text_check
  lines_refused r o found = rw found (refl, refl)

  pub begin_refused : (r : Refusal) (o : List ℕ) → begun (begin_check s) s ≡ Err r → FileTold o (Err r) o
  unfolding lines_check
  begin_refused r o told = lines_refused r o (rw (begun_bad (begin_check s) s r told))

  -- and what the writer saved or had no room for
  pub file_saved : lines_check s ≡ Passed → (acts : List Action) (places : List ℕ) (e n t p : ℕ) (u : List ℕ) → Handed (candidate_in s) acts places e n t p u → (o : List ℕ) (r : Saved) (o' : List ℕ) → Save acts places e n t p u o r o' → FileTold o r o'
  file_saved passed acts places e n t p u handed o r o' saved = rw (passed_good s passed) (saved_handed (candidate_in s) acts places e n t p u (text_fileable s passed) handed o r o' saved)
