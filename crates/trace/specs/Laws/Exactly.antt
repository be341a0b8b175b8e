-- A text passes exactly if it is the text of steps that lines can say.
use Prim.Native.Nat.{ℕ, zero, suc, ◌+◌, ◌<◌, ◌≤◌}
use Rattle.std.specs.Prelude.{Bool, cond, ◌↔◌, ◌≡◌, ltb, drop}
use Rattle.std.proofs.Math.Bool.{true, false}
use mathlib.Core.List.{List, [], ◌∷◌, ◌++◌}
use Rattle.std.proofs.Math.Logic.{⊎_elim}
use Rattle.std.proofs.Math.Path.{refl, ap}
use Rattle.std.proofs.Common.{sym, ◌∙◌, arith, lt-ltb, le-ltb}
use Rattle.std.proofs.Math.ListN.{length, drop_of_length-le}
use Rattle.rows.specs.Laws.Truth.{and_both, lt_or_le}
use Rattle.page.specs.Lines.{lines}
use Rattle.model.specs.Refusals.{Passed}
use Rattle.drawing.specs.Files.{then}
use Rattle.drawing.specs.Laws.Passed.{only_if, both_pass}
use Rattle.spelling.specs.Spelling.{stands}
use Rattle.spelling.specs.Laws.Stands.{starts_split, after_line}
use Rattle.machine.specs.declared.Step.{Step}
use Rattle.trace.specs.Traces.{step_line, number_limit, threads_in, places_in, first_line, step_read, line_end, steps_from, steps_in, all_spelled, text_of, longest_trace, formed, line_test, lines_check, form_check}
use Rattle.trace.specs.Laws.Written.{form_passes}
use Rattle.trace.specs.Laws.Prefix.{value_fits, read_spelled, passes, end_short, passed_line, line_end_lem, formed_length}

module _ (s : List ℕ) where
  -- the steps that are read from q on are shown whole by their lines
  steps_spelled : (k q : ℕ) → all_spelled (steps_from k s q) ≡ true
  unfolding steps_from all_spelled
  steps_spelled zero q = refl
  steps_spelled (suc k) q = go (ltb q (length s)) (steps_spelled k (line_end s q))
    where
      go : (t : Bool) → all_spelled (steps_from k s (line_end s q)) ≡ true → all_spelled (cond t (step_read s q ∷ steps_from k s (line_end s q)) []) ≡ true
      go true others = and_both (read_spelled s q) others
      go false others = refl

  -- a line that passes is the one that is written of its step, and what follows stands behind it
  line_written : (q : ℕ) → passes s q ≡ true → drop q s ≡ step_line (step_read s q) ++ drop (line_end s q) s
  line_written q e =
      let x = step_read s q in
      let h = passed_line s q e in
      let after : drop (line_end s q) s ≡ h.rest = ap (λ (n : ℕ). drop n s) (line_end_lem h) ∙ after_line s q (step_line x) h.rest h.is in
      h.is ∙ ap (λ (r : List ℕ). step_line x ++ r) (sym after)

  -- lines that pass are those that are written of their steps
  lines_written : (k q : ℕ) → length s ≤ q + k → lines_check k s q ≡ Passed → drop q s ≡ lines step_line (steps_from k s q)
  unfolding lines_check line_test steps_from lines
  lines_written zero q few e = drop_of_length-le s {i = q} (omega arith)
  lines_written (suc k) q few e = ⊎_elim
      (λ (l : q < length s).
      let f : then (line_test s q) (lines_check k s (line_end s q)) ≡ Passed = rw (lt-ltb q (length s) l) at e in
      let (here, others) = both_pass (line_test s q) _ f in
      let ok = (only_if (passes s q) _ _ _ here).0 in
      rw (lt-ltb q (length s) l) (line_written q ok ∙ ap (λ (r : List ℕ). step_line (step_read s q) ++ r) (lines_written k (line_end s q) (omega (arith, (end_short s q ok).0)) others)))
      (λ (l : length s ≤ q). rw (le-ltb q (length s) l) (drop_of_length-le s l))
      (lt_or_le q (length s))

-- The steps of any text are shown whole by their lines.
pub taken_spelled : (s : List ℕ) → all_spelled (steps_in s) ≡ true
taken_spelled s = steps_spelled s (length s) (length (first_line s))

-- A text that passes is the one that is written of what was read.
pub taken_written : (s : List ℕ) → form_check s ≡ Passed → s ≡ text_of (threads_in s) (places_in s) (steps_in s)
unfolding form_check
taken_written s passed =
    let (first, others) = both_pass (formed (stands s 0 (first_line s)) 0) (lines_check (length s) s (length (first_line s))) passed in
    starts_split (first_line s) s (only_if (stands s 0 (first_line s)) _ _ _ first).0
    ∙ ap (λ (r : List ℕ). first_line s ++ r) (lines_written s (length s) (length (first_line s)) (omega arith) others)

-- So a text passes exactly if it is that of numbers and steps that lines can say, and isn't too long: by `written-steps` they are what is read.
pub passes_exactly : (s : List ℕ)
    → (form_check s ≡ Passed) ↔ ((t : ℕ) × (p : ℕ) × (l : List Step) × (t < number_limit) × (p < number_limit) × (all_spelled l ≡ true) × (length s ≤ longest_trace) × (s ≡ text_of t p l))
passes_exactly s =
    (λ passed. (threads_in s, places_in s, steps_in s, value_fits _, value_fits _, taken_spelled s, formed_length s passed, taken_written s passed), λ (t, p, l, ht, hp, all, few, is). form_passes s t p l ht hp is all few)
