-- A trace run line by line: the steps that are left, from where the machine is, lead where all steps lead from the start. And its file, the file's room, and the room of the line of a refused step.
use Prim.Native.Nat.{ℕ, suc, ◌+◌, ◌-◌, ◌^◌, ◌<◌, ◌≤◌, zero-le}
use Rattle.std.specs.Prelude.{Bool, true, false, cond, List, [], ◌∷◌, ◌≡◌, refl, ltb, Result, Ok, Err}
use Rattle.std.specs.Borrow.{MutBor}
use Rattle.std.proofs.Common.{sym, ap, ◌∙◌, length-append}
use native.Mathlib.Omega.{arith}
use Rattle.std.proofs.Math.ListN.{length}
use borrow.Author.Tests.{lt-ltb, le-ltb}
use Rattle.page.specs.Lines.{ascii, decimal, ending, line}
use Rattle.page.specs.Page.{page, Wrote}
use Rattle.page.specs.Laws.Lengths.{decimal_length, ending_more}
use Rattle.page.specs.Pens.{started, penned}
use Rattle.page.specs.declared.Pen.{Pen}
use Rattle.page.specs.Laws.Pages.{wrote_whole}
use Rattle.page.specs.Laws.Pens.{wrote_penned}
use Rattle.model.specs.declared.refusals.Reason.{Reason}
use Rattle.model.specs.declared.refusals.Reason.TheVariants.{ShortBuffer, OutOfLimit}
use Rattle.model.specs.Refusals.{Good as Taken, Passed, Refused, Saved, Walk}
use Rattle.drawing.specs.Files.{then, longest_file, file_of}
use Rattle.drawing.specs.Laws.Sizes.{rows_most}
use Rattle.drawing.proofs.Laws.Written.{file_taken}
use Rattle.writer.specs.Saves.{saved_by, Told}
use Rattle.writer.specs.Laws.Saving.{fitted_fits}
use Rattle.model.specs.declared.refusals.Refusal.{Refusal}
use Rattle.model.proofs.Laws.Refusals.{given_not_refused, same_refused, same_given}
use Rattle.machine.specs.declared.Machine.{Machine}
use Rattle.machine.specs.Machine.{State, start, machine_ok, step, run}
use Rattle.machine.specs.Code.{state_of, Makes}
use Rattle.machine.specs.Laws.Reaching.{start_reached, run_reached}
use Rattle.console.specs.Consoles.{SavesMachine}
use Rattle.console.specs.Laws.Formed.{reached_fileable}
use Rattle.trace.specs.Traces.{threads_in, places_in, first_line, step_read, line_end, steps_from, steps_in, form_check, trace_check, begun, traced, traced_check, refused_step}
use Rattle.trace.specs.declared.Beginning.{Beginning}
use Rattle.trace.specs.Reads.{Good}

-- ---- the steps

-- i lines were run, which led to σ; those from q on are left
pub record Running (s : List ℕ) (at : ℕ) (σ₀ : State) (i q : ℕ) (σ : State) : Type 0 where
  pub few : i ≤ length s
  pub due : run σ₀ (steps_from (length s) s at) ≡ run σ (steps_from (length s - i) s q)

-- at the start all of them are left
pub running_start : {s : List ℕ} {at : ℕ} {σ₀ : State} → Running s at σ₀ 0 at σ₀
running_start {s} = record { few = zero-le; due = let e : length s - 0 ≡ length s = omega arith in rw e }

module _ {s : List ℕ} {at : ℕ} {σ₀ : State} {i q : ℕ} {σ : State} (r : Running s at σ₀ i q σ) where
  -- the text ends: none is left
  pub running_over : i < length s → length s ≤ q → run σ₀ (steps_from (length s) s at) ≡ σ
  unfolding steps_from run
  running_over h l = let m : length s - i ≡ suc (length s - (i + 1)) = omega arith in r.due ∙ rw (m, le-ltb q (length s) l)

  -- one more
  pub running_on : i < length s → q < length s → Running s at σ₀ (i + 1) (line_end s q) (step σ (step_read s q))
  unfolding steps_from run
  running_on h l =
      let m : length s - i ≡ suc (length s - (i + 1)) = omega arith in
      record { few = omega arith; due = r.due ∙ rw (m, lt-ltb q (length s) l) }

  -- as many lines as the text has bytes were run: none is left
  pub running_done : length s ≤ i → run σ₀ (steps_from (length s) s at) ≡ σ
  unfolding steps_from run
  running_done h = let m : length s - i ≡ 0 = omega arith in r.due ∙ rw m

-- ---- the file

-- a trace of another form
pub begun_bad : (s : List ℕ) (k : Reason) (at : ℕ) → begun (form_check s) s ≡ Refused k at → trace_check s ≡ Refused k at
unfolding trace_check
begun_bad s k at told = go (form_check s) told
  where
    go : (w : Walk) → begun w s ≡ Refused k at → then w (cond (machine_ok (threads_in s) (places_in s)) Passed (Refused OutOfLimit 0)) ≡ Refused k at
    go (Ok _) e = let z : ◌≡◌ {A = ℕ} 0 1 = cc in absurd (omega arith)
    go (Err r) e = let f = same_refused r.reason k r.at at e in rw (f.0, f.1)

-- a trace of its form, with its numbers: the check of the machine decides
pub record Began (s : List ℕ) (t p at : ℕ) : Type 0 where
  pub due : trace_check s ≡ cond (machine_ok t p) Passed (Refused OutOfLimit 0)
  pub threads : t ≡ threads_in s
  pub places : p ≡ places_in s
  pub steps : at ≡ length (first_line s)

-- so it is where its form was found
pub begun_good : (s : List ℕ) (t p at : ℕ) → begun (form_check s) s ≡ Good t p at → Began s t p at
unfolding trace_check
begun_good s t p at told = go (form_check s) refl told
  where
    go : (w : Walk) → form_check s ≡ w → begun w s ≡ Good t p at → Began s t p at
    go (Ok _) f e =
        let g = same_given _ _ e in
        let et : threads_in s ≡ t = ap (λ (b : Beginning). b.t) g in
        let ep : places_in s ≡ p = ap (λ (b : Beginning). b.p) g in
        let ea : length (first_line s) ≡ at = ap (λ (b : Beginning). b.at) g in
        record { due = rw (f, et, ep); threads = sym et; places = sym ep; steps = sym ea }
    go (Err r) f e = let z : ◌≡◌ {A = ℕ} 0 1 = cc in absurd (omega arith)

-- what is refused is told, and the buffer stays
pub trace_refused : (s : List ℕ) (k : Reason) (at : ℕ) → trace_check s ≡ Refused k at → (o : List ℕ) → Told (traced_check s (length o)) (file_of (traced s)) o (Refused k at) o
trace_refused s k at e o = rw e (refl, refl)

module _ {s : List ℕ} {t p at : ℕ} (b : Began s t p at) {r : Result Machine Refusal} (made : Makes t p r) where
  -- a machine beyond the limits is refused
  pub made_refused : (e : Refusal) → r ≡ Err e → trace_check s ≡ Err e
  made_refused e f = rw f at (b.due ∙ sym made.answer)

  -- one within them is at its start
  made_taken : (m : Machine) → r ≡ Ok m → (machine_ok t p ≡ true) × (state_of m ≡ start t p)
  made_taken m f = (go (machine_ok t p) (rw f at made.answer), rw f at made.machine)
    where
      go : (x : Bool) → Passed ≡ cond x Passed (Refused OutOfLimit 0) → x ≡ true
      go true e = refl
      go false e = absurd (given_not_refused _ _ e)

  -- then the file of where the steps lead is the trace's
  pub made_saved : (m : Machine) → r ≡ Ok m → (σ : State) → σ ≡ run (state_of m) (steps_from (length s) s at) → (o : List ℕ) (a : Saved) (o' : List ℕ) → SavesMachine σ o a o'
      → Told (traced_check s (length o)) (file_of (traced s)) o a o'
  made_saved m f σ e o a o' saved =
      let (ok, starts) = made_taken m f in
      let passed : trace_check s ≡ Passed = b.due ∙ rw ok in
      let led : σ ≡ run (start (threads_in s) (places_in s)) (steps_in s) = e ∙ rw (starts, b.threads, b.places, b.steps) in
      rw passed (rw led at saved)

-- ---- its room

-- a length that is told fits the buffer
pub trace_fits : (s : List ℕ) (room k : ℕ) → Ok k ≡ saved_by (traced_check s room) (file_of (traced s)) → k ≤ room
trace_fits s room k told = go (trace_check s) told
  where
    go : (w : Walk) → Ok k ≡ saved_by (then w (cond (ltb room (length (file_of (traced s)))) (Refused ShortBuffer 0) Passed)) (file_of (traced s)) → k ≤ room
    go (Ok _) e = fitted_fits (Taken 0 0 0 0) (file_of (traced s)) room k e
    go (Err r) e = let z : ◌≡◌ {A = ℕ} 0 1 = cc in absurd (omega arith)

-- no file of a trace that passes is longer than the longest
traced_length : (s : List ℕ) → trace_check s ≡ Passed → length (file_of (traced s)) ≤ longest_file
unfolding trace_check
traced_length s passed =
    let ok = then_ok (form_check s) (machine_ok (threads_in s) (places_in s)) passed in
    let reached = run_reached (start (threads_in s) (places_in s)) (steps_in s) (start_reached (threads_in s) (places_in s) ok) in
    let X = traced s in
    let g = file_taken X (reached_fileable _ reached) in
    omega (arith, g.size, g.actions, g.places, rows_most X.n X.n)
  where
    then_ok : (w : Walk) (x : Bool) → then w (cond x Passed (Refused OutOfLimit 0)) ≡ Passed → x ≡ true
    then_ok (Ok _) true e = refl
    then_ok (Ok _) false e = let z : ◌≡◌ {A = ℕ} 0 1 = cc in absurd (omega arith)
    then_ok (Err r) x e = let z : ◌≡◌ {A = ℕ} 0 1 = cc in absurd (omega arith)

-- A buffer with room for the longest file is never too short.
pub trace_room_lem : (s : List ℕ) (room : ℕ) → longest_file ≤ room → traced_check s room ≡ trace_check s
trace_room_lem s room enough = go (trace_check s) refl
  where
    go : (w : Walk) → trace_check s ≡ w → then w (cond (ltb room (length (file_of (traced s)))) (Refused ShortBuffer 0) Passed) ≡ w
    go (Ok _) e = rw (le-ltb room (length (file_of (traced s))) (omega (arith, traced_length s e)))
    go (Err r) e = refl

-- ---- the line of a refused step

-- it fits 64 bytes, for its numbers have 64 bits
refused_short : (count k : ℕ) → count < 2 ^ 64 → k < 2 ^ 64 → length (refused_step count k) ≤ 64
unfolding ending
refused_short count k a b =
    omega (
      arith,
      length-append (decimal count) (line (ascii " refused") (k ∷ 0 ∷ [])),
      decimal_length 19 count (omega arith),
      ending_more 20 k (0 ∷ []) (decimal_length 19 k (omega arith)),
      ending_more 1 0 [] (decimal_length 0 0 (omega arith)),
    )

-- so its end is in the buffer
pub refused_fits : {count k r : ℕ} {l l' : List ℕ} → Wrote 64 (page l 0) (refused_step count k) (page l' r) → count < 2 ^ 64 → k < 2 ^ 64 → length l ≡ 64 → r ≤ 64
refused_fits {count} {k} w a b e =
    let short = refused_short count k a b in
    omega (arith, (wrote_whole w (omega arith) short).1)

-- as a pen writes it
pub refused_penned : {out : MutBor (List ℕ)} {p q : Pen} {count k : ℕ} → p ≡ started out 64 → q ≡ penned p (refused_step count k) → count < 2 ^ 64 → k < 2 ^ 64 → length out.now ≡ 64 → q.at ≤ 64
refused_penned {out} {p} {q} {count} {k} begun wrote a b e =
    let told = refused_step count k in
    rw (wrote, begun) (refused_fits (wrote_penned (started out 64) told) a b e)
