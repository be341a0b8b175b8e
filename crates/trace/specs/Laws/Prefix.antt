-- One byte more than the longest trace has decides the answer to any text; and no text that is taken is longer than the longest trace.
use Prim.Native.Nat.{ℕ, zero, suc, ◌+◌, ◌<◌, ◌≤◌}
use Rattle.std.specs.Prelude.{Bool, cond, ◌&&◌, ◌||◌, List, ◌++◌, ◌≡◌, ltb, leb, eqb, take, drop}
use Rattle.std.proofs.Math.Bool.{true, false}
use Rattle.std.proofs.Common.{append_assoc, ⊎_elim, sym, ◌∙◌, arith, length-drop, take-append-drop, length-take-le, take_all}
use Rattle.std.proofs.Math.Path.{refl, ap, ap₂}
use Rattle.std.proofs.Math.ListN.{length, length-append}
use Rattle.std.proofs.Math.Seq.{take-append_seam}
use Rattle.std.proofs.lemmas.List.{take-append-le, drop-append-le}
use borrow.Author.Tests.{lt-ltb, ltb-true, le-leb, leb-true}
use Rattle.rows.specs.Laws.Truth.{both_true, and_both, same, lt_or_le}
use Rattle.model.specs.Actions.{kind_number}
use Rattle.page.specs.Lines.{ascii}
use Rattle.model.specs.declared.refusals.Reason.TheVariants.{OutOfLimit}
use Rattle.model.specs.Refusals.{Passed, Refused, Walk}
use Rattle.drawing.specs.Files.{kind_of, then}
use Rattle.drawing.specs.Laws.Passed.{only_if, both_pass}
use Rattle.spelling.specs.Spelling.{kind_word, has_place, has_written, starts, stands, field_at, clipped, kind_at}
use Rattle.spelling.specs.Laws.Scans.{clipped_below}
use Rattle.spelling.specs.Laws.Stands.{starts_split, starts_own, stands_split, stands_moves}
use Rattle.machine.specs.declared.Step.{Step}
use Rattle.machine.specs.Machine.{machine_ok}
use Rattle.trace.specs.Traces.{machine_line, step_line, number_limit, value_in, threads_in, places_in, first_line, drain_read, action_read, step_read, line_end, spelled, longest_trace, trace_room, formed, line_test, lines_check, form_check, trace_check}
use Rattle.trace.specs.Laws.Lengths.{first_short, step_some}
use Rattle.trace.specs.Laws.Again.{first_read, line_read}

-- ---- what is read is shown whole by its line

-- a number is read as one of 32 bits
pub value_fits : (n : ℕ) → clipped number_limit n < number_limit
value_fits n = clipped_below number_limit n (omega arith)

-- and the test of it passes
value_test : (n : ℕ) → ltb (clipped number_limit n) number_limit ≡ true
value_test n = lt-ltb (clipped number_limit n) number_limit (value_fits n)

-- one that the kind doesn't have is read as 0
none_read : (s : List ℕ) (has : Bool) (q : ℕ) → has || eqb (value_in (field_at s has 0 q)) 0 ≡ true
unfolding field_at clipped
none_read s true q = refl
none_read s false q = refl

-- the kind that is read has the number that was read
kind_kept : (s : List ℕ) (q o : ℕ) → kind_number (kind_of (kind_at s q) o) ≡ kind_at s q
unfolding kind_at kind_of
kind_kept s q o = let word : ℕ → Bool = λ k. stands s q (kind_word k) in go (word 1) (word 2) (word 3) (word 4) (word 5) (word 6) (word 7)
  where
    go : (a b c d e f g : Bool) → let k : ℕ = cond a 1 (cond b 2 (cond c 3 (cond d 4 (cond e 5 (cond f 6 (cond g 7 8)))))) in kind_number (kind_of k o) ≡ k
    go true b c d e f g = refl
    go false true c d e f g = refl
    go false false true d e f g = refl
    go false false false true e f g = refl
    go false false false false true f g = refl
    go false false false false false true g = refl
    go false false false false false false true = refl
    go false false false false false false false = refl

-- every action is read as one that its line shows whole
action_spelled : (s : List ℕ) (q : ℕ) → spelled (action_read s q) ≡ true
unfolding action_read spelled
action_spelled s q =
    let k = kind_at s q in
    rw (kind_kept s q) (and_both (value_test _) (and_both (value_test _) (and_both (value_test _) (and_both (none_read s (has_place k) _) (none_read s (has_written k) _)))))

-- so is every step
pub read_spelled : (s : List ℕ) (q : ℕ) → spelled (step_read s q) ≡ true
unfolding step_read spelled
read_spelled s q = go (stands s q (ascii "drain"))
  where
    go : (t : Bool) → spelled (cond t (drain_read s q) (action_read s q)) ≡ true
    go true = value_test (field_at s true 0 (q + 5)).value
    go false = action_spelled s q

-- ---- a line that passes

-- the line at q passes
abbrev pub passes : List ℕ → ℕ → Bool
passes s q = ltb q (line_end s q) && leb (line_end s q) longest_trace

-- it ends behind q, within the longest trace
pub end_short : (s : List ℕ) (q : ℕ) → passes s q ≡ true → (q < line_end s q) × (line_end s q ≤ longest_trace)
end_short s q e =
    let (moves, short) = both_true (ltb q (line_end s q)) _ e in
    (ltb-true q (line_end s q) moves, leb-true (line_end s q) longest_trace short)

-- the line of x stands at q, and ends where the longest trace does at the latest
pub record LineOf (s : List ℕ) (q : ℕ) (x : Step) : Type 0 where
  pub rest : List ℕ
  pub shown : spelled x ≡ true
  pub is : drop q s ≡ step_line x ++ rest
  pub short : q + length (step_line x) ≤ longest_trace

-- a line that passes is that of the step that it is read as
pub passed_line : (s : List ℕ) (q : ℕ) → passes s q ≡ true → LineOf s q (step_read s q)
passed_line s q e =
    let x = step_read s q in
    let (moves, short) = end_short s q e in
    let (there, end) = stands_moves s q (step_line x) (step_some x) moves in
    record {
      rest = drop (q + length (step_line x)) s;
      shown = read_spelled s q;
      is = stands_split s q (step_line x) there;
      short = omega (arith, end, short);
    }

-- the line of a step ends behind it
pub line_end_lem : {s : List ℕ} {q : ℕ} {x : Step} → LineOf s q x → line_end s q ≡ q + length (step_line x)
line_end_lem {s} {q} {x} h = line_read s q h.rest x h.shown h.is

-- and passes
line_passes : {s : List ℕ} {q : ℕ} {x : Step} → LineOf s q x → passes s q ≡ true
line_passes {s} {q} {x} h =
    let end = line_end_lem h in
    and_both (lt-ltb q (line_end s q) (omega (arith, end, step_some x))) (le-leb (line_end s q) longest_trace (omega (arith, end, h.short)))

-- ---- the first line

-- the first line of t and p stands in front
record FirstOf (s : List ℕ) (t p : ℕ) : Type 0 where
  rest : List ℕ
  threads : t < number_limit
  places : p < number_limit
  is : s ≡ machine_line t p ++ rest

-- one that passes is that of the numbers that it is read as
first_of : (s : List ℕ) → stands s 0 (first_line s) ≡ true → FirstOf s (threads_in s) (places_in s)
first_of s e = record { rest = drop (length (first_line s)) s; threads = value_fits _; places = value_fits _; is = starts_split (first_line s) s e }

-- it is read as it was written
first_is : {s : List ℕ} {t p : ℕ} → FirstOf s t p → (threads_in s ≡ t) × (places_in s ≡ p)
first_is {s} {t} {p} h = first_read s t p h.rest h.threads h.places h.is

-- and passes
first_stands : {s : List ℕ} {t p : ℕ} → FirstOf s t p → stands s 0 (first_line s) ≡ true
first_stands {s} {t} {p} h =
    let (threads, places) = first_is h in
    ap₂ starts (ap₂ machine_line threads places) h.is ∙ starts_own (machine_line t p) h.rest

-- it is far shorter than the longest trace
first_few : (t p : ℕ) → t < number_limit → p < number_limit → length (machine_line t p) ≤ longest_trace
first_few t p a b = omega (arith, first_short t p (omega arith) (omega arith))

-- ---- no text is taken that is longer than the longest trace

-- while lines pass, the end of such a text isn't reached
long_refused : (s : List ℕ) → longest_trace < length s → (k q : ℕ) → q ≤ longest_trace → length s ≤ q + k → lines_check k s q ≡ Passed → ⊥
unfolding lines_check line_test
long_refused s long zero q l few e = omega arith
long_refused s long (suc k) q l few e =
    let f : then (line_test s q) (lines_check k s (line_end s q)) ≡ Passed = rw (lt-ltb q (length s) (omega arith)) at e in
    let (here, others) = both_pass (line_test s q) _ f in
    let (moves, short) = end_short s q (only_if (passes s q) _ _ _ here).0 in
    long_refused s long k (line_end s q) short (omega arith) others

-- A text whose lines pass is not longer than the longest.
pub formed_length : (s : List ℕ) → form_check s ≡ Passed → length s ≤ longest_trace
unfolding form_check
formed_length s passed =
    let (_, others) = both_pass (formed (stands s 0 (first_line s)) 0) (lines_check (length s) s (length (first_line s))) passed in
    let few = first_few (threads_in s) (places_in s) (value_fits _) (value_fits _) in
    ⊎_elim (λ (long : longest_trace < length s). absurd (long_refused s long (length s) (length (first_line s)) few (omega arith) others)) (λ l. l) (lt_or_le longest_trace (length s))

-- So no text that is taken is.
pub taken_length : (s : List ℕ) → trace_check s ≡ Passed → length s ≤ longest_trace
unfolding trace_check
taken_length s passed = formed_length s (both_pass (form_check s) _ passed).0

-- ---- a text u, and what follows it

module _ (u v : List ℕ) where
  -- what stands in u stands in the whole
  front_stands : (q : ℕ) (w r : List ℕ) → q ≤ length u → drop q u ≡ w ++ r → drop q (u ++ v) ≡ w ++ (r ++ v)
  front_stands q w r l is = drop-append-le q u v l ∙ ap (λ (m : List ℕ). m ++ v) is ∙ append_assoc w r v

  -- what stands in the whole, and ends in u, stands in u
  stands_front : (q : ℕ) (w r : List ℕ) → q + length w ≤ length u → drop q (u ++ v) ≡ w ++ r → drop q u ≡ w ++ drop (length w) (drop q u)
  stands_front q w r l is =
      let n = length w in
      let e : take n (drop q u) ≡ w = sym (take-append-le n (drop q u) v (omega (arith, length-drop q u))) ∙ ap (take n) (sym (drop-append-le q u v (omega arith)) ∙ is) ∙ take-append_seam w r in
      sym (take-append-drop n (drop q u)) ∙ ap (λ (m : List ℕ). m ++ drop n (drop q u)) e

-- ---- a text u longer than the longest trace decides, whatever follows

module _ (u v : List ℕ) (long : longest_trace < length u) where
  abbrev whole : List ℕ
  whole = u ++ v

  -- a step's line in u is one in the whole
  line_on : {q : ℕ} {x : Step} → LineOf u q x → LineOf whole q x
  line_on {q} {x} h = record { rest = h.rest ++ v; shown = h.shown; is = front_stands u v q (step_line x) h.rest (omega (arith, h.short)) h.is; short = h.short }

  -- and the other way round
  line_back : {q : ℕ} {x : Step} → LineOf whole q x → LineOf u q x
  line_back {q} {x} h = record { rest = drop (length (step_line x)) (drop q u); shown = h.shown; is = stands_front u v q (step_line x) h.rest (omega (arith, h.short)) h.is; short = h.short }

  -- so the line at q passes in both or in neither
  passes_same : (q : ℕ) → passes u q ≡ passes whole q
  passes_same q = same (passes u q) (passes whole q) (λ e. line_passes (line_on (passed_line u q e))) (λ e. line_passes (line_back (passed_line whole q e)))

  -- one that passes ends at the same place
  end_same : (q : ℕ) → passes whole q ≡ true → line_end u q ≡ line_end whole q
  end_same q e = let h = passed_line whole q e in line_end_lem (line_back h) ∙ sym (line_end_lem h)

  -- the lines from q on get the same answer
  lines_same : (k j q : ℕ) → q ≤ longest_trace → length u ≤ q + k → length whole ≤ q + j → lines_check k u q ≡ lines_check j whole q
  unfolding lines_check line_test
  lines_same zero j q l a b = absurd (omega arith)
  lines_same (suc k) zero q l a b = absurd (omega (arith, length-append u v))
  lines_same (suc k) (suc j) q l a b =
      rw (lt-ltb q (length u) (omega arith), lt-ltb q (length whole) (omega (arith, length-append u v)), passes_same q)
      (go (passes whole q) refl (lines_same k j))
    where
      go : (t : Bool) → passes whole q ≡ t → ((p : ℕ) → p ≤ longest_trace → length u ≤ p + k → length whole ≤ p + j → lines_check k u p ≡ lines_check j whole p)
          → then (formed t q) (lines_check k u (line_end u q)) ≡ then (formed t q) (lines_check j whole (line_end whole q))
      go true e others = let (moves, short) = end_short whole q e in rw (end_same q e) (others (line_end whole q) short (omega arith) (omega arith))
      go false e others = refl

  -- a first line of u is that of the whole
  first_on : {t p : ℕ} → FirstOf u t p → FirstOf whole t p
  first_on {t} {p} h = record { rest = h.rest ++ v; threads = h.threads; places = h.places; is = front_stands u v 0 (machine_line t p) h.rest (omega arith) h.is }

  -- and the other way round
  first_back : {t p : ℕ} → FirstOf whole t p → FirstOf u t p
  first_back {t} {p} h = record { rest = drop (length (machine_line t p)) u; threads = h.threads; places = h.places; is = stands_front u v 0 (machine_line t p) h.rest (omega (arith, first_few t p h.threads h.places)) h.is }

  -- so the first line stands in both or in neither
  first_same : stands u 0 (first_line u) ≡ stands whole 0 (first_line whole)
  first_same = same (stands u 0 (first_line u)) (stands whole 0 (first_line whole)) (λ e. first_stands (first_on (first_of u e))) (λ e. first_stands (first_back (first_of whole e)))

  -- the answer to a text of the right form, of a machine of t and p
  abbrev limits : ℕ → ℕ → Walk
  limits t p = cond (machine_ok t p) Passed (Refused OutOfLimit 0)

  -- u gets the answer of the whole
  front_decides : trace_check u ≡ trace_check whole
  unfolding trace_check form_check
  front_decides = rw first_same (go (stands whole 0 (first_line whole)) refl)
    where
      go : (t : Bool) → stands whole 0 (first_line whole) ≡ t
          → then (then (formed t 0) (lines_check (length u) u (length (first_line u)))) (limits (threads_in u) (places_in u)) ≡ then (then (formed t 0) (lines_check (length whole) whole (length (first_line whole)))) (limits (threads_in whole) (places_in whole))
      go true e =
          let h = first_of whole e in
          let (threads, places) = first_is (first_back h) in
          let few = first_few (threads_in whole) (places_in whole) h.threads h.places in
          ap₂ (λ (t p : ℕ). then (lines_check (length u) u (length (machine_line t p))) (limits t p)) threads places
          ∙ ap (λ (w : Walk). then w (limits (threads_in whole) (places_in whole))) (lines_same (length u) (length whole) (length (first_line whole)) few (omega arith) (omega arith))
      go false e = refl

-- The first 1,048,577 bytes of a text decide the answer to it.
pub trace_prefix : (s : List ℕ) → trace_check (take trace_room s) ≡ trace_check s
trace_prefix s = ⊎_elim
    (λ (l : trace_room < length s). front_decides (take trace_room s) (drop trace_room s) (omega (arith, length-take-le trace_room s (omega arith))) ∙ ap trace_check (take-append-drop trace_room s))
    (λ (l : length s ≤ trace_room). ap trace_check (take_all trace_room s l))
    (lt_or_le trace_room (length s))
