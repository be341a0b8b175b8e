-- The writer: its check, its answer, and what it leaves in the buffer.
use Rattle.std.specs.Prelude.{ℕ, cond, List, ◌++◌, ◌↔◌, ◌≡◌, ltb, length, take, drop, Ok, Err}
use Rattle.model.specs.declared.Action.{Action}
use Rattle.model.specs.Candidates.{Candidate}
use Rattle.model.specs.declared.refusals.Reason.{Reason}
use Rattle.model.specs.declared.refusals.Reason.TheVariants.{ShortBuffer}
use Rattle.model.specs.Refusals.{Checked, Good, Passed, Refused, Saved, Walk}
use Rattle.drawing.specs.Files.{then, file_length, candidate_of, check_of, file_of}
use Rattle.lists.specs.Lists.{list_check, list_candidate}

-- the second door's refusals in its order, and last of all 9 if the file won't fit
unfoldable pub save_check : List Action → List ℕ → ℕ → ℕ → ℕ → ℕ → List ℕ → ℕ → Walk
save_check acts places e n t p store room =
    then (list_check acts places e n t p store) (cond (ltb room (file_length n p)) (Refused ShortBuffer 0) Passed)

-- the reader's refusal, and last of all 9 if what is made of it won't fit
abbrev pub fitted : Checked → ℕ → ℕ → Walk
fitted (Ok _) made room = cond (ltb room made) (Refused ShortBuffer 0) Passed
fitted (Err r) made room = Err r

-- the file's length is returned
abbrev pub saved_by : Walk → List ℕ → Saved
saved_by (Ok _) file = Ok (length file)
saved_by (Err r) file = Err r

-- the file stands at the buffer's front, and the bytes past it stay
abbrev pub out_by : Walk → List ℕ → List ℕ → List ℕ
out_by (Ok _) file out = file ++ drop (length file) out
out_by (Err r) file out = out

-- what a check w tells of bytes that were made, by the answer r, and what the buffer holds then that held o
abbrev pub Told : Walk → List ℕ → List ℕ → Saved → List ℕ → Type 0
Told w made o r o' = (r ≡ saved_by w made) × (o' ≡ out_by w made o)

-- what the writer keeps, of a check's finding w, the candidate X and a buffer that held o
pub record Saves (w : Walk) (X : Candidate) (o : List ℕ) (r : Saved) (o' : List ℕ) : Type 0 where
  pub answer : r ≡ saved_by w (file_of X)
  pub out : o' ≡ out_by w (file_of X) o
  -- It refuses by number and position in the fixed order of checks; buffer untouched.
  pub refused : (k : Reason) (at : ℕ) → (w ≡ Refused k at) ↔ (r ≡ Refused k at)
  pub kept : (k : Reason) (at : ℕ) → r ≡ Refused k at → o' ≡ o
  -- Reading what it wrote gives the same candidate.
  pub taken : (k : ℕ) → r ≡ Ok k → check_of (take k o') ≡ Good X.edition X.n X.t X.p
  pub same : (k : ℕ) → r ≡ Ok k → candidate_of (take k o') ≡ X
  -- Bytes past the file's length stay.
  pub rest : (k : ℕ) → r ≡ Ok k → drop k o' ≡ drop k o

-- the writer's answer to what was handed in
abbrev pub Save : List Action → List ℕ → ℕ → ℕ → ℕ → ℕ → List ℕ → List ℕ → Saved → List ℕ → Type 0
Save acts places e n t p store o r o' = Saves (save_check acts places e n t p store (length o)) (list_candidate acts places e n t p store) o r o'
