-- Refusal 13 is told exactly of the first bad or missing line; and one byte more than the longest text has decides the answer.
use Rattle.std.specs.Prelude.{ℕ, ◌≤◌, List, ◌↔◌, ◌≡◌, refl, length, take, Ok, Err}
use Rattle.std.proofs.Common.{sym, ap, ◌∙◌, arith, take_all}
use Rattle.model.specs.declared.refusals.Reason.{Reason}
use Rattle.model.specs.declared.refusals.Reason.TheVariants.{BadLine}
use Rattle.model.specs.Refusals.{Passed, Refused, Walk}
use Rattle.model.proofs.Laws.Refusals.{same_refused}
use Rattle.drawing.specs.Files.{answer}
use Rattle.spelling.specs.Spelling.{edition_in, actions_in, threads_in, places_in}
use Rattle.text.specs.Texts.{candidate_in, lines_check, text_check, longest_text, text_room}
use Rattle.text.specs.FirstBad.{FirstBad}
use Rattle.text.proofs.Laws.Sound.{text_again}
use Rattle.text.proofs.Laws.Taken.{text_fileable}
use Rattle.text.proofs.Laws.Refused.{refused_first}
use Rattle.text.proofs.Laws.Bad.{bad_refused}
use Rattle.text.proofs.Laws.Longest.{text_length}
use Rattle.text.proofs.Laws.Prefix.{bad_front}

-- what the whole check answers is what the lines' check found
answer_refused : (w : Walk) (e n t p : ℕ) (k : Reason) (q : ℕ) → answer w e n t p ≡ Refused k q → w ≡ Refused k q
answer_refused (Ok _) e n t p k q told = let z : ◌≡◌ {A = ℕ} 0 1 = cc in absurd (omega arith)
answer_refused (Err r) e n t p k q told = let same : (r.reason ≡ k) × (r.at ≡ q) = ((cc), (cc)) in rw (same.0, same.1)

lines_refused : (s : List ℕ) (k : Reason) (q : ℕ) → text_check s ≡ Refused k q → lines_check s ≡ Refused k q
unfolding text_check
lines_refused s k q told = answer_refused (lines_check s) (edition_in s) (actions_in s) (threads_in s) (places_in s) k q told

text_refused : (s : List ℕ) (k : Reason) (q : ℕ) → lines_check s ≡ Refused k q → text_check s ≡ Refused k q
unfolding text_check
text_refused s k q found = rw found

-- A text has no refusal but 13.
pub only_13 : (s : List ℕ) (k : Reason) (q : ℕ) → text_check s ≡ Refused k q → k ≡ BadLine
only_13 s k q told = (refused_first s k q (lines_refused s k q told)).0

-- The position is that of the first bad or missing line, both ways.
pub first_bad : (s : List ℕ) (q : ℕ) → (text_check s ≡ Refused BadLine q) ↔ FirstBad s q
first_bad s q = (λ told. (refused_first s BadLine q (lines_refused s BadLine q told)).1, λ bad. text_refused s BadLine q (bad_refused s q bad))

-- So no text has two first bad lines.
pub one_place_lem : (s : List ℕ) (q r : ℕ) → FirstBad s q → FirstBad s r → q ≡ r
one_place_lem s q r here there = (same_refused BadLine BadLine q r (sym ((first_bad s q).1 here) ∙ (first_bad s r).1 there)).1

-- A text that is taken is not longer than the longest.
pub taken_length : (s : List ℕ) → lines_check s ≡ Passed → length s ≤ longest_text
taken_length s passed = rw (sym (text_again s passed)) (text_length (candidate_in s) (text_fileable s passed))

-- The first 1,086,425 bytes of a text decide the answer to it.
pub text_prefix : (s : List ℕ) → text_check (take text_room s) ≡ text_check s
text_prefix s = go (lines_check s) refl
  where
    go : (w : Walk) → lines_check s ≡ w → text_check (take text_room s) ≡ text_check s
    go (Ok _) found = ap text_check (take_all text_room s (omega (arith, taken_length s found)))
    go (Err r) found =
        let (is, bad) = refused_first s r.reason r.at found in
        text_refused (take text_room s) BadLine r.at (bad_refused (take text_room s) r.at (bad_front s r.at bad)) ∙ sym (text_refused s BadLine r.at (rw is at found))
