-- A line is read as what it was written of.
use Rattle.std.specs.Prelude.{ℕ, ◌+◌, ◌<◌, Bool, true, false, ◌||◌, ◌≡◌, refl, ltb, eqb, length, drop}
use mathlib.Core.List.{List, ◌∷◌, ◌++◌, append_assoc}
use Rattle.std.proofs.Math.Path.{ap}
use Rattle.std.proofs.Common.{◌∙◌, lt-ltb, ltb-true, eqb-true}
use Rattle.std.proofs.Math.Seq.{drop-append_seam}
use Rattle.rows.specs.Laws.Truth.{both_true}
use Rattle.model.specs.declared.ActionKind.{ActionKind}
use Rattle.model.specs.declared.ActionKind.TheVariants.{Lock, Unlock, AtomicLoad, AtomicStore, ReadModifyWrite, Load, Store, Fence}
use Rattle.model.specs.Actions.{kind_number, order_in}
use Rattle.page.specs.Lines.{ascii, space, newline, ending}
use Rattle.drawing.specs.Laws.Kinds.{kind_found}
use Rattle.spelling.specs.Spelling.{kind_word, order_word, has_place, has_written, part, starts, clipped}
use Rattle.spelling.specs.Laws.Stands.{starts_own, after_line}
use Rattle.spelling.specs.Laws.Scans.{stops}
use Rattle.spelling.specs.Laws.Actions.{stops_part, stops_order, true_false, field_read, kind_read, order_read, end_read}
use Rattle.spelling.specs.Laws.First.{part_stops}
use Rattle.machine.specs.declared.Step.{Step}
use Rattle.machine.specs.declared.Step.TheVariants.{Does, Drains}
use Rattle.trace.specs.Traces.{machine_line, step_line, number_limit, threads_number, places_number, threads_in, places_in, action_read, step_read, line_end, spelled}

-- a number of 32 bits is taken as it is
clip_is : (n : ℕ) → n < number_limit → clipped number_limit n ≡ n
unfolding clipped
clip_is n l = rw (lt-ltb n number_limit l)

-- ---- the first line

module _ (s : List ℕ) (t p : ℕ) (r : List ℕ) (ht : t < number_limit) (hp : p < number_limit) (is : s ≡ machine_line t p ++ r) where
  -- part by part
  machine_is : s ≡ ascii "machine" ++ (part true t ++ (part true p ++ (newline ∷ r)))
  unfolding ending part
  machine_is = is ∙ ap (λ (l : List ℕ). ascii "machine" ++ (space ∷ l)) (simp (append_assoc))

  -- what follows its word
  numbers : drop 7 s ≡ part true t ++ (part true p ++ (newline ∷ r))
  numbers = after_line s 0 (ascii "machine") _ machine_is

  -- the number of threads, and where it ends
  threads : threads_number s ≡ record { value = t; next = 7 + length (part true t) }
  threads = field_read s true 0 t 7 _ numbers ht true_false (part_stops p (newline ∷ r))

  -- the number of places
  places : places_number s ≡ record { value = p; next = 7 + length (part true t) + length (part true p) }
  places = rw threads (field_read s true 0 p (7 + length (part true t)) _ (after_line s 7 (part true t) _ numbers) hp true_false refl)

  -- both are read as they were written
  pub first_read : (threads_in s ≡ t) × (places_in s ≡ p)
  first_read = (rw threads (clip_is t ht), rw places (clip_is p hp))

-- ---- the line of a step

-- that of a drain, part by part
drain_is : (thread : ℕ) (r : List ℕ) → step_line (Drains thread) ++ r ≡ ascii "drain" ++ (part true thread ++ (newline ∷ r))
unfolding step_line ending part
drain_is thread r = ap (λ (l : List ℕ). ascii "drain" ++ (space ∷ l)) (simp (append_assoc))

-- no kind's word is that of a drain
no_drain : (w : ActionKind) (r : List ℕ) → starts (ascii "drain") (kind_word (kind_number w) ++ r) ≡ false
unfolding kind_word starts
no_drain Lock r = refl
no_drain Unlock r = refl
no_drain (AtomicLoad m) r = refl
no_drain (AtomicStore m) r = refl
no_drain (ReadModifyWrite m) r = refl
no_drain Load r = refl
no_drain Store r = refl
no_drain (Fence m) r = refl

-- a number that isn't shown is 0
hidden : (has : Bool) (n : ℕ) → has || eqb n 0 ≡ true → has ≡ false → n ≡ 0
hidden true n e f = true_false f
hidden false n e f = eqb-true n 0 e

-- an action that its line shows whole
record Shown (what : ActionKind) (thread place written : ℕ) : Type 0 where
  thread_fits : thread < number_limit
  place_fits : place < number_limit
  written_fits : written < number_limit
  no_place : has_place (kind_number what) ≡ false → place ≡ 0
  no_written : has_written (kind_number what) ≡ false → written ≡ 0

-- what is told of one that is spelled
shown : (what : ActionKind) (thread place written : ℕ) → spelled (Does what thread place written) ≡ true → Shown what thread place written
unfolding spelled
shown what thread place written e =
    let a = both_true (ltb thread number_limit) _ e in
    let b = both_true (ltb place number_limit) _ a.1 in
    let c = both_true (ltb written number_limit) _ b.1 in
    let d = both_true (has_place (kind_number what) || eqb place 0) _ c.1 in
    record {
      thread_fits = ltb-true thread number_limit a.0;
      place_fits = ltb-true place number_limit b.0;
      written_fits = ltb-true written number_limit c.0;
      no_place = hidden (has_place (kind_number what)) place d.0;
      no_written = hidden (has_written (kind_number what)) written d.1;
    }

-- the line of an action is read as this action
does_read : (s : List ℕ) (q : ℕ) (r : List ℕ) (what : ActionKind) (thread place written : ℕ) → Shown what thread place written → drop q s ≡ step_line (Does what thread place written) ++ r → step_read s q ≡ Does what thread place written
unfolding step_line step_read action_read
does_read s q r what thread place written h is =
    let k = kind_number what in
    let p1 = part true thread in
    let p2 = part (has_place (kind_number what)) place in
    let o = order_word (order_in what) in
    let p3 = part (has_written (kind_number what)) written in
    let r4 : List ℕ = newline ∷ r in
    let r3 = p3 ++ r4 in
    let ro = o ++ r3 in
    let r2 = p2 ++ ro in
    let r1 = p1 ++ r2 in
    let d0 : drop q s ≡ kind_word k ++ r1 = is ∙ simp (append_assoc) in
    let q1 = q + length (kind_word k) in
    let d1 : drop q1 s ≡ r1 = after_line s q (kind_word k) r1 d0 in
    let s3 : stops r3 ≡ true = stops_part (has_written (kind_number what)) written r4 refl in
    let so : stops ro ≡ true = stops_order (order_in what) r3 s3 in
    let s2 : stops r2 ≡ true = stops_part (has_place (kind_number what)) place ro so in
    let f1 = field_read s true 0 thread q1 r2 d1 h.thread_fits true_false s2 in
    let q2 = q1 + length p1 in
    let d2 : drop q2 s ≡ r2 = after_line s q1 p1 r2 d1 in
    let f2 = field_read s (has_place (kind_number what)) 0 place q2 ro d2 h.place_fits h.no_place so in
    let q3 = q2 + length p2 in
    let d3 : drop q3 s ≡ ro = after_line s q2 p2 ro d2 in
    let fo = order_read s q3 r3 what d3 in
    let q4 = q3 + length o in
    let d4 : drop q4 s ≡ r3 = after_line s q3 o r3 d3 in
    let f3 = field_read s (has_written (kind_number what)) 0 written q4 r4 d4 h.written_fits h.no_written refl in
    rw (ap (starts (ascii "drain")) d0 ∙ no_drain what r1, kind_read s q r1 what d0, end_read s q (kind_word k) r1 d0, f1, f2, fo, end_read s q3 o r3 d3, f3, kind_found what, clip_is thread h.thread_fits, clip_is place h.place_fits, clip_is written h.written_fits)

-- the line of a drain is read as this drain
drains_read : (s : List ℕ) (q : ℕ) (r : List ℕ) (thread : ℕ) → thread < number_limit → drop q s ≡ step_line (Drains thread) ++ r → step_read s q ≡ Drains thread
unfolding step_read
drains_read s q r thread h is =
    let d : drop q s ≡ ascii "drain" ++ (part true thread ++ (newline ∷ r)) = is ∙ drain_is thread r in
    let f = field_read s true 0 thread (q + 5) _ (after_line s q (ascii "drain") _ d) h true_false refl in
    rw (ap (starts (ascii "drain")) d ∙ starts_own (ascii "drain") (part true thread ++ (newline ∷ r)), f, clip_is thread h)

-- the line of a step is read as this step
pub step_read_lem : (s : List ℕ) (q : ℕ) (r : List ℕ) (x : Step) → spelled x ≡ true → drop q s ≡ step_line x ++ r → step_read s q ≡ x
unfolding spelled
step_read_lem s q r (Does what thread place written) fits is = does_read s q r what thread place written (shown what thread place written fits) is
step_read_lem s q r (Drains thread) fits is = drains_read s q r thread (ltb-true thread number_limit fits) is

-- its end is found
pub line_read : (s : List ℕ) (q : ℕ) (r : List ℕ) (x : Step) → spelled x ≡ true → drop q s ≡ step_line x ++ r → line_end s q ≡ q + length (step_line x)
line_read s q r x fits is = rw (step_read_lem s q r x fits is) (end_read s q (step_line x) r is)

-- it is read wherever it stands
pub line_again : (u v : List ℕ) (x : Step) → spelled x ≡ true → step_read (u ++ (step_line x ++ v)) (length u) ≡ x
line_again u v x fits = step_read_lem (u ++ (step_line x ++ v)) (length u) v x fits (drop-append_seam u (step_line x ++ v))
