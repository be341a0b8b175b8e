-- Steps that were written are read back, and their text passes.
use Prim.Native.Nat.{ℕ, zero, suc, ◌+◌, ◌<◌, ◌≤◌}
use Rattle.std.specs.Prelude.{true, ◌≡◌, drop}
use mathlib.Core.List.{List, [], ◌∷◌, ◌++◌}
use Rattle.std.proofs.Math.Path.{refl}
use Rattle.std.proofs.Common.{ap, ap₂, ◌∙◌, arith, length-append, length-drop}
use Rattle.std.proofs.Math.ListN.{length}
use Rattle.std.proofs.Math.Seq.{drop-append_seam}
use borrow.Author.Tests.{lt-ltb, le-ltb, le-leb}
use Rattle.rows.specs.Laws.Truth.{both_true}
use Rattle.page.specs.Lines.{lines}
use Rattle.model.specs.Refusals.{Passed}
use Rattle.spelling.specs.Spelling.{starts, stands}
use Rattle.spelling.specs.Laws.Stands.{starts_own, after_line}
use Rattle.machine.specs.declared.Step.{Step}
use Rattle.trace.specs.Traces.{machine_line, step_line, number_limit, threads_in, places_in, first_line, steps_from, steps_in, spelled, all_spelled, text_of, longest_trace, line_test, lines_check, form_check}
use Rattle.trace.specs.Laws.Lengths.{step_some}
use Rattle.trace.specs.Laws.Again.{first_read, step_read_lem, line_read}

-- no line is empty, so there are no more steps than bytes in their lines
lines_length : (l : List Step) → length l ≤ length (lines step_line l)
unfolding lines
lines_length [] = omega arith
lines_length (x ∷ l) = omega (arith, step_some x, lines_length l, length-append (step_line x) (lines step_line l))

-- where nothing is left the text is over
over : (s : List ℕ) (q : ℕ) → drop q s ≡ [] → length s ≤ q
over s q is = omega (arith, length-drop q s, ap (λ (l : List ℕ). length l) is)

-- a line that stands in the text ends in it
within : (s : List ℕ) (q : ℕ) (x : Step) (r : List ℕ) → drop q s ≡ step_line x ++ r → (q < length s) × (q + length (step_line x) ≤ length s)
within s q x r is =
    let e : length (drop q s) ≡ length (step_line x) + length r = ap (λ (l : List ℕ). length l) is ∙ length-append (step_line x) r in
    (omega (arith, e, length-drop q s, step_some x), omega (arith, e, length-drop q s, step_some x))

module _ (s : List ℕ) where
  -- the lines from q on are read as the steps that they were written of
  steps_read : (k q : ℕ) (l : List Step) → all_spelled l ≡ true → length l ≤ k → drop q s ≡ lines step_line l → steps_from k s q ≡ l
  unfolding steps_from all_spelled lines
  steps_read zero q [] all few is = refl
  steps_read zero q (x ∷ l) all few is = absurd (omega arith)
  steps_read (suc k) q [] all few is = rw (le-ltb q (length s) (over s q is))
  steps_read (suc k) q (x ∷ l) all few is =
      let (fits, others) = both_true (spelled x) (all_spelled l) all in
      let r = lines step_line l in
      rw (lt-ltb q (length s) (within s q x r is).0, line_read s q r x fits is, step_read_lem s q r x fits is)
      (ap (λ (m : List Step). x ∷ m) (steps_read k (q + length (step_line x)) l others (omega arith) (after_line s q (step_line x) r is)))

  -- and they pass
  lines_pass : (k q : ℕ) (l : List Step) → all_spelled l ≡ true → length s ≤ longest_trace → drop q s ≡ lines step_line l → lines_check k s q ≡ Passed
  unfolding lines_check line_test all_spelled lines
  lines_pass zero q l all few is = refl
  lines_pass (suc k) q [] all few is = rw (le-ltb q (length s) (over s q is))
  lines_pass (suc k) q (x ∷ l) all few is =
      let (fits, others) = both_true (spelled x) (all_spelled l) all in
      let r = lines step_line l in
      let w = within s q x r is in
      let e = line_read s q r x fits is in
      rw (lt-ltb q (length s) w.0, e, lt-ltb q (q + length (step_line x)) (omega (arith, step_some x)), le-leb (q + length (step_line x)) longest_trace (omega (arith, w.1)))
      (lines_pass k (q + length (step_line x)) l others few (after_line s q (step_line x) r is))

-- ---- a text of machine and steps

module _ (s : List ℕ) (t p : ℕ) (l : List Step) (ht : t < number_limit) (hp : p < number_limit) (is : s ≡ text_of t p l) where
  -- its first line is read as it was written,
  first_is : first_line s ≡ machine_line t p
  first_is = let (threads, places) = first_read s t p (lines step_line l) ht hp is in ap₂ machine_line threads places

  -- so it stands,
  first_stands : stands s 0 (first_line s) ≡ true
  first_stands = ap₂ starts first_is is ∙ starts_own (machine_line t p) (lines step_line l)

  -- and the lines of the steps are left
  left : drop (length (first_line s)) s ≡ lines step_line l
  left = ap₂ (λ (u v : List ℕ). drop (length u) v) first_is is ∙ drop-append_seam (machine_line t p) (lines step_line l)

  -- there are no more steps than bytes of the text
  steps_few : length l ≤ length s
  steps_few = omega (arith, lines_length l, ap (λ (u : List ℕ). length u) is ∙ length-append (machine_line t p) (lines step_line l))

  -- the steps are read
  pub steps_again : all_spelled l ≡ true → steps_in s ≡ l
  steps_again all = steps_read s (length s) (length (first_line s)) l all steps_few left

  -- and the text passes
  pub form_passes : all_spelled l ≡ true → length s ≤ longest_trace → form_check s ≡ Passed
  unfolding form_check
  form_passes all few = rw first_stands (lines_pass s (length s) (length (first_line s)) l all few left)

-- The text of steps that their lines show whole passes, if it isn't too long, and is read as the machine and the steps that it was written of.
pub written_steps : (t p : ℕ) (l : List Step) → t < number_limit → p < number_limit → all_spelled l ≡ true → length (text_of t p l) ≤ longest_trace
    → (form_check (text_of t p l) ≡ Passed) × (threads_in (text_of t p l) ≡ t) × (places_in (text_of t p l) ≡ p) × (steps_in (text_of t p l) ≡ l)
written_steps t p l ht hp all few =
    let s = text_of t p l in
    let (threads, places) = first_read s t p (lines step_line l) ht hp refl in
    (form_passes s t p l ht hp refl all few, threads, places, steps_again s t p l ht hp refl all)
