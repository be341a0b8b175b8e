-- What the writer answers to the candidate of a good file, handed to it as a list: the file again.
use Rattle.std.specs.Prelude.{ℕ, ◌+◌, ◌-◌, ◌≤◌, List, ◌≡◌, length, take, drop, Ok}
use Rattle.std.proofs.Common.{sym}
use Rattle.rows.specs.Numbers.{listed}
use Rattle.model.specs.Limits.{most_actions}
use Rattle.model.specs.Refusals.{Good, Saved}
use Rattle.drawing.specs.Files.{place_bytes, action_no, candidate_of, check_of}
use Rattle.drawing.proofs.Laws.LittleEndian.{Bytes}
use Rattle.drawing.proofs.Laws.Good.{good_taken}
use Rattle.drawing.proofs.Laws.Formed.{places_lent, acts_lent}
use Rattle.drawing.proofs.Laws.Again.{file_again, good_fileable}
use Rattle.lists.proofs.Laws.Handed.{Handed}
use Rattle.writer.specs.Saves.{saved_by, Told, Save}
use Rattle.writer.specs.Laws.Saving.{saved_handed, fitted_fits}
use Rattle.copyist.specs.Copies.{copy_check}

-- of a good file's candidate the writer's answer and the buffer are the file's
pub copy_saved : (file : List ℕ) (e n t p : ℕ) → Bytes file → check_of file ≡ Good e n t p → (s : List ℕ) → Handed (candidate_of file) (candidate_of file).acts (candidate_of file).places e n t p s → (o : List ℕ) (r : Saved) (o' : List ℕ)
    → Save (take n (listed most_actions (action_no file n p))) (take (place_bytes + p - place_bytes) (drop place_bytes file)) e n t p s o r o'
    → Told (copy_check file (length o)) file o r o'
copy_saved file e n t p bytes taken s handed o r o' saved =
    let X = candidate_of file in
    let g = good_taken file e n t p taken in
    let z = rw (sym (acts_lent file e n t p g), sym (places_lent file e n t p g)) at saved in
    rw taken (rw (file_again file e n t p bytes taken) at (saved_handed X X.acts X.places e n t p s (good_fileable file e n t p bytes taken) handed o r o' z))

-- a length that is told fits the buffer
pub copy_fits : (file : List ℕ) (room k : ℕ) → Ok k ≡ saved_by (copy_check file room) file → k ≤ room
copy_fits file room k e = fitted_fits (check_of file) file room k e
