-- A drawing file without rf, sc and mo completed: the check, the answer, and what is written. Definitions only.
use Rattle.std.specs.Prelude.{ℕ, cond, List, ◌++◌, ltb, length, drop, Result, Ok, Err}
use Rattle.model.specs.Limits.{store_length}
use Rattle.model.specs.Candidates.{Candidate}
use Rattle.model.specs.Store.{store_of}
use Rattle.model.specs.declared.refusals.Refusal.{Refusal}
use Rattle.model.specs.declared.refusals.Reason.TheVariants.{ShortBuffer}
use Rattle.model.specs.Refusals.{Checked, Refused, Walk}
use Rattle.drawing.specs.Files.{then, check_of, candidate_of, file_of}
use Rattle.choices.specs.declared.Outcome.{Outcome}
use Rattle.choices.specs.declared.Outcome.TheVariants.{Found, None as NoneOf, Undecided as Open}
use Rattle.finder.specs.Finding.{few_check, half_check, sought, candidate_no}
use Rattle.completer.specs.declared.Completion.{Completion}
use Rattle.completer.specs.declared.Completion.TheVariants.{Made as MadeOne, None as FoundNone, Undecided as LeftOpen}

-- ---- the answer: a file that was made, none, or undecided, with the number of candidates judged; or a refusal

abbrev pub Completed : Type 0
Completed = Result Completion Refusal

abbrev pub Made : ℕ → ℕ → Completed
Made k l = Ok (MadeOne k l)

abbrev pub None : ℕ → Completed
None k = Ok (FoundNone k)

abbrev pub Undecided : ℕ → Completed
Undecided k = Ok (LeftOpen k)

-- ---- the check

-- the reader's refusal; then N above 8 (5), and rf, sc or mo not empty (12)
abbrev pub half_found : Checked → Candidate → Walk
half_found (Ok h) X = then (few_check h.edition h.n store_length) (half_check (store_of X))
half_found (Err r) X = Err r

abbrev pub complete_check : List ℕ → Walk
complete_check file = half_found (check_of file) (candidate_of file)

-- candidate k of the list as a file
abbrev pub file_no : Candidate → ℕ → List ℕ
file_no X k = file_of (candidate_no X k)

-- what the search found is answered with the number of candidates judged; a found file that won't fit its buffer is 9, last of all
abbrev pub completed_for : Outcome → Candidate → ℕ → Completed
completed_for (Found k) X room = cond (ltb room (length (file_no X k))) (Refused ShortBuffer 0) (Made k (length (file_no X k)))
completed_for (NoneOf k) X room = None k
completed_for (Open k) X room = Undecided k

-- the found file stands at the buffer's front, and the bytes past it stay
abbrev pub out_for : Outcome → Candidate → List ℕ → List ℕ
out_for (Found k) X out = cond (ltb (length out) (length (file_no X k))) out (file_no X k ++ drop (length (file_no X k)) out)
out_for (NoneOf k) X out = out
out_for (Open k) X out = out

-- ---- by the check's finding, with the budget b

abbrev pub completed_by : Walk → Candidate → ℕ → ℕ → Completed
completed_by (Ok _) X b room = completed_for (sought X b) X room
completed_by (Err r) X b room = Err r

abbrev pub out_by : Walk → Candidate → ℕ → List ℕ → List ℕ
out_by (Ok _) X b out = out_for (sought X b) X out
out_by (Err r) X b out = out
