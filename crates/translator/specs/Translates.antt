-- The text of a file and the file of a text: what the checks find, and what is made. Definitions only.
use Rattle.std.specs.Prelude.{ℕ, ◌+◌, ◌<◌, List, ◌≡◌, length, get_or}
use Rattle.rows.specs.Sets.{Rel, none}
use Rattle.rows.specs.Numbers.{held}
use Rattle.model.specs.Limits.{given_relations}
use Rattle.model.specs.Refusals.{Walk}
use Rattle.drawing.specs.Files.{place_bytes, recorded, candidate_of, check_of, file_of}
use Rattle.writer.specs.Saves.{fitted}
use Rattle.text.specs.Texts.{text_with, text_of, candidate_in, text_check}

-- the text of the candidate that a file holds: the reader's refusal, and last of all 9 if the text won't fit
abbrev pub text_of_file : List ℕ → List ℕ
text_of_file file = text_of (candidate_of file)

abbrev pub text_check_of : List ℕ → ℕ → Walk
text_check_of file room = fitted (check_of file) (length (text_of_file file)) room

-- the file of the candidate that a text holds: refusal 13 at the first bad or missing line, and last of all 9 if the file won't fit
abbrev pub file_of_text : List ℕ → List ℕ
file_of_text text = file_of (candidate_in text)

abbrev pub file_check_of : List ℕ → ℕ → Walk
file_check_of text room = fitted (text_check text) (length (file_of_text text)) room

-- ---- the text as it is written: places and actions from the file, relations from the store

abbrev pub text_from : List ℕ → List ℕ → ℕ → ℕ → ℕ → ℕ → List ℕ
text_from file store e n t p = text_with e n t p (λ i. get_or file (place_bytes + i) 0) (recorded file p) (held store)

-- ---- the store, before a text's edges go to it: relations 0 to 6 have no edge

abbrev pub Unfilled : (ℕ → Rel) → Type 0
Unfilled old = (k a : ℕ) → k < given_relations → old k a ≡ none
