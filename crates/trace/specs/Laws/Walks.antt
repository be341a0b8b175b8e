-- The check of a trace's form, line by line.
use Prim.Native.Nat.{ℕ, suc, ◌+◌, ◌-◌, ◌<◌, ◌≤◌, zero-le}
use Rattle.std.specs.Prelude.{Bool, true, false, cond, ◌&&◌, List, ◌≡◌, ltb, leb, Err}
use Rattle.std.proofs.Common.{◌∙◌, ltb-true}
use Rattle.std.proofs.Math.Bool.{and_comm}
use Rattle.std.proofs.Math.Nat.{zero-add}
use native.Mathlib.Omega.{arith}
use Rattle.std.proofs.Math.ListN.{length}
use borrow.Author.Tests.{lt-ltb, le-ltb}
use Rattle.model.specs.declared.refusals.Reason.TheVariants.{BadLine}
use Rattle.model.specs.declared.refusals.Refusal.{Refusal}
use Rattle.model.specs.Refusals.{Passed, Walk}
use Rattle.model.proofs.Laws.Refusals.{given_not_refused}
use Rattle.drawing.specs.Files.{then}
use Rattle.drawing.specs.Laws.Passed.{only_if}
use Rattle.spelling.specs.Spelling.{stands, word_end}
use Rattle.spelling.specs.Laws.Stands.{moves, stands_moves}
use Rattle.trace.specs.Traces.{step_line, step_read, first_line, line_end, longest_trace, formed, line_test, lines_check, form_check}
use Rattle.trace.specs.Laws.Lengths.{first_some}

-- ---- the lines after the first

-- a test that failed is the answer
failed : (b l : Bool) (q : ℕ) (w : Walk) {r : Refusal} → formed b q ≡ Err r → then (formed (b && l) q) w ≡ Err r
failed true l q w e = absurd (given_not_refused tt _ e)
failed false l q w e = e

-- no line ends before it starts
pub end_stays : (s : List ℕ) (q : ℕ) → q ≤ line_end s q
unfolding word_end
end_stays s q = go (stands s q (step_line (step_read s q)))
  where
    go : (t : Bool) → q ≤ cond t (q + length (step_line (step_read s q))) q
    go true = omega arith
    go false = omega arith

-- i lines passed, and those from q on decide
pub record Going (s : List ℕ) (at i q : ℕ) : Type 0 where
  pub few : i ≤ length s
  pub due : lines_check (length s) s at ≡ lines_check (length s - i) s q

-- at the start all of them decide
pub going_start : {s : List ℕ} {at : ℕ} → Going s at 0 at
going_start {s} = record { few = zero-le; due = let e : length s - 0 ≡ length s = omega arith in rw e }

module _ {s : List ℕ} {at i q : ℕ} (g : Going s at i q) where
  -- the text ends: all passed
  pub going_over : i < length s → length s ≤ q → lines_check (length s) s at ≡ Passed
  unfolding lines_check
  going_over h l = let m : length s - i ≡ suc (length s - (i + 1)) = omega arith in g.due ∙ rw (m, le-ltb q (length s) l)

  -- whether a line stands at q; and whether it is within the longest trace
  abbrev stood : Walk
  stood = formed (ltb q (line_end s q)) q

  abbrev within : Walk
  within = formed (leb (line_end s q) longest_trace) q

  -- none stands at q: it is refused
  pub going_stays : {r : Refusal} → i < length s → q < length s → stood ≡ Err r → lines_check (length s) s at ≡ Err r
  unfolding lines_check line_test
  going_stays h l e = let m : length s - i ≡ suc (length s - (i + 1)) = omega arith in g.due ∙ rw (m, lt-ltb q (length s) l) (failed (ltb q (line_end s q)) _ q _ e)

  -- the line at q passes the longest trace: it is refused
  pub going_long : {r : Refusal} → i < length s → q < length s → within ≡ Err r → lines_check (length s) s at ≡ Err r
  unfolding lines_check line_test
  going_long h l e =
      let m : length s - i ≡ suc (length s - (i + 1)) = omega arith in
      let some = leb (line_end s q) longest_trace in
      g.due ∙ rw (m, lt-ltb q (length s) l, and_comm (ltb q (line_end s q)) some) (failed some (ltb q (line_end s q)) q _ e)

  -- the line at q passes the check: one more
  pub going_on : i < length s → q < length s → stood ≡ Passed → within ≡ Passed → Going s at (i + 1) (line_end s q)
  unfolding lines_check line_test
  going_on h l t e =
      let m : length s - i ≡ suc (length s - (i + 1)) = omega arith in
      record { few = omega arith; due = g.due ∙ rw (m, lt-ltb q (length s) l, (only_if (ltb q (line_end s q)) BadLine q Passed t).0, e) }

  -- as many lines as the text has bytes passed: all did
  pub going_done : length s ≤ i → lines_check (length s) s at ≡ Passed
  unfolding lines_check
  going_done h = let m : length s - i ≡ 0 = omega arith in g.due ∙ rw m

-- ---- the first line

module _ (s : List ℕ) where
  -- whether it stands
  abbrev line : Walk
  line = formed (ltb 0 (word_end s 0 (first_line s))) 0

  -- it is missing
  pub first_missing : {r : Refusal} → line ≡ Err r → form_check s ≡ Err r
  unfolding form_check
  first_missing {r} e =
      let missing : formed (stands s 0 (first_line s)) 0 ≡ Err r = rw (moves s 0 (first_line s) (first_some _ _)) at e in
      rw missing

  -- it stands, and the others decide
  pub first_stands : line ≡ Passed → (form_check s ≡ lines_check (length s) s (length (first_line s))) × (word_end s 0 (first_line s) ≡ length (first_line s))
  unfolding form_check
  first_stands e =
      let m = stands_moves s 0 (first_line s) (first_some _ _) (ltb-true _ _ (only_if _ BadLine 0 Passed e).0) in
      (rw m.0, m.1 ∙ zero-add (length (first_line s)))
