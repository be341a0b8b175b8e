-- From text to file and back, and from file to text and back: what is read again is what was written.
use Rattle.std.specs.Prelude.{ℕ, List, ◌≡◌, refl, Ok, Err}
use Rattle.std.proofs.Common.{sym, ap, ◌∙◌}
use Rattle.model.specs.Candidates.{Candidate}
use Rattle.model.specs.Refusals.{Checked, Good, Passed, Walk}
use Rattle.model.proofs.Laws.Refusals.{given_not_refused}
use Rattle.drawing.specs.Files.{answer, candidate_with, candidate_of, check_of, file_of, Fileable}
use Rattle.drawing.proofs.Laws.LittleEndian.{Bytes}
use Rattle.drawing.proofs.Laws.Good.{good_taken, good_candidate}
use Rattle.drawing.proofs.Laws.Written.{written_good, written_same}
use Rattle.drawing.proofs.Laws.Again.{file_again, good_fileable}
use Rattle.text.specs.Texts.{text_of, candidate_in, lines_check, text_check}
use Rattle.text.proofs.Laws.Sound.{text_again}
use Rattle.text.proofs.Laws.Taken.{text_fileable}
use Rattle.text.proofs.Laws.Candidates.{text_taken, text_gives}
use Rattle.translator.specs.Translates.{text_of_file, file_of_text}

-- ---- a text that is taken

-- its check tells the candidate's edition, N, T and P
abbrev good_of : Candidate → Checked
good_of X = Good X.edition X.n X.t X.p

lines_passed : (w : Walk) (e n t p e' n' t' p' : ℕ) → answer w e n t p ≡ Good e' n' t' p' → w ≡ Passed
lines_passed (Ok _) e n t p e' n' t' p' told = refl
lines_passed (Err r) e n t p e' n' t' p' told = absurd (given_not_refused _ r (sym told))

pub good_passed : (s : List ℕ) (e n t p : ℕ) → text_check s ≡ Good e n t p → lines_check s ≡ Passed
unfolding text_check
good_passed s e n t p told = lines_passed (lines_check s) _ _ _ _ e n t p told

pub passed_good : (s : List ℕ) → lines_check s ≡ Passed → text_check s ≡ good_of (candidate_in s)
unfolding text_check candidate_in
passed_good s passed = rw passed

-- ---- the theorems

-- A text that is taken becomes a file that is taken, whose text it is.
pub text_file_text : (s : List ℕ) (e n t p : ℕ) → text_check s ≡ Good e n t p → (check_of (file_of_text s) ≡ Good e n t p) × (text_of_file (file_of_text s) ≡ s)
text_file_text s e n t p told =
    let passed = good_passed s e n t p told in
    let f = text_fileable s passed in
    (written_good (candidate_in s) f ∙ sym (passed_good s passed) ∙ told, ap text_of (written_same (candidate_in s) f) ∙ text_again s passed)

-- Each candidate that a file can hold has exactly one text.
pub record OneText (X : Candidate) : Type 0 where
  pub taken : text_check (text_of X) ≡ Good X.edition X.n X.t X.p
  pub gives : candidate_in (text_of X) ≡ X
  pub only : (s : List ℕ) → lines_check s ≡ Passed → candidate_in s ≡ X → s ≡ text_of X

pub one_text : (X : Candidate) → Fileable X → OneText X
one_text X f =
    record {
      taken = passed_good (text_of X) (text_taken X f) ∙ ap good_of (text_gives X f);
      gives = text_gives X f;
      only = λ s passed same. sym (text_again s passed) ∙ ap text_of same;
    }

-- A file that is taken becomes a text that is taken, whose file it is.
pub file_text_file : (file : List ℕ) (e n t p : ℕ) → Bytes file → check_of file ≡ Good e n t p → (text_check (text_of_file file) ≡ Good e n t p) × (file_of_text (text_of_file file) ≡ file)
unfolding candidate_with
file_text_file file e n t p bytes good =
    let one = one_text (candidate_of file) (good_fileable file e n t p bytes good) in
    (one.taken ∙ ap good_of (good_candidate file e n t p (good_taken file e n t p good)), ap file_of one.gives ∙ file_again file e n t p bytes good)
