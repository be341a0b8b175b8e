-- A length that is told fits the buffer; and buffers with room for the longest text and the longest file are never too short.
use Rattle.std.specs.Prelude.{ℕ, ◌≤◌, List, ◌≡◌, length, Ok}
use Rattle.std.proofs.Common.{arith, le-ltb}
use Rattle.model.specs.Refusals.{Good, Passed}
use Rattle.drawing.specs.Files.{candidate_of, check_of, longest_file}
use Rattle.drawing.proofs.Laws.LittleEndian.{Bytes}
use Rattle.drawing.proofs.Laws.Good.{good_taken}
use Rattle.drawing.proofs.Laws.Again.{good_fileable}
use Rattle.drawing.specs.Laws.Sizes.{rows_most}
use Rattle.writer.specs.Saves.{saved_by}
use Rattle.writer.specs.Laws.Saving.{fitted_fits}
use Rattle.text.specs.Texts.{text_check, longest_text}
use Rattle.text.proofs.Laws.Longest.{text_length}
use Rattle.translator.specs.Translates.{text_of_file, text_check_of, file_of_text, file_check_of}
use Rattle.translator.specs.Laws.Round.{text_file_text}

pub text_fits : (file : List ℕ) (room k : ℕ) → Ok k ≡ saved_by (text_check_of file room) (text_of_file file) → k ≤ room
text_fits file room k told = fitted_fits (check_of file) (text_of_file file) room k told

pub file_fits : (text : List ℕ) (room k : ℕ) → Ok k ≡ saved_by (file_check_of text room) (file_of_text text) → k ≤ room
file_fits text room k told = fitted_fits (text_check text) (file_of_text text) room k told

-- A file that is taken has a text for which there is room.
pub text_room_lem : (file : List ℕ) (e n t p room : ℕ) → Bytes file → check_of file ≡ Good e n t p → longest_text ≤ room → text_check_of file room ≡ Passed
text_room_lem file e n t p room bytes good enough =
    rw (good, le-ltb room (length (text_of_file file)) (omega (arith, text_length (candidate_of file) (good_fileable file e n t p bytes good))))

-- A text that is taken has a file for which there is room.
pub file_room_lem : (s : List ℕ) (e n t p room : ℕ) → text_check s ≡ Good e n t p → longest_file ≤ room → file_check_of s room ≡ Passed
file_room_lem s e n t p room good enough =
    let g = good_taken (file_of_text s) e n t p (text_file_text s e n t p good).0 in
    rw (good, le-ltb room (length (file_of_text s)) (omega (arith, g.size, g.actions, g.places, rows_most n n)))
