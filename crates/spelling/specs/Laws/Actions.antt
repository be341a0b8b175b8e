-- The line of an action is read back.
use Rattle.std.specs.Prelude.{ℕ, suc, ◌+◌, ◌-◌, ◌<◌, Bool, true, false, cond, List, [], ◌∷◌, ◌++◌, ◌≡◌, refl, eqb, length, drop}
use Rattle.std.proofs.Common.{append_assoc, sym, ap, ◌∙◌, arith, length-drop, lt-ltb}
use Rattle.rows.specs.Laws.Truth.{not_both}
use Rattle.model.specs.declared.Action.{Action}
use Rattle.model.specs.declared.MemoryOrder.{MemoryOrder}
use Rattle.model.specs.declared.MemoryOrder.TheVariants.{Relaxed, Consume, Acquire, Release, AcqRel, SeqCst}
use Rattle.model.specs.declared.ActionKind.{ActionKind}
use Rattle.model.specs.declared.ActionKind.TheVariants.{Lock, Unlock, AtomicLoad, AtomicStore, ReadModifyWrite, Load, Store, Fence}
use Rattle.model.specs.Actions.{kind_number, order_number, order_in}
use Rattle.page.specs.Lines.{space, newline, decimal}
use Rattle.drawing.specs.Laws.Kinds.{kind_found}
use Rattle.spelling.specs.Spelling.{kind_word, order_word, has_place, has_order, has_read, has_written, part, action_line, starts, field_at, clipped, kind_at, order_at, word_end, action_read}
use Rattle.spelling.specs.Laws.Stands.{starts_own, after_line}
use Rattle.spelling.specs.Laws.Scans.{stops, scan_decimal}

-- ---- what follows a field is no digit

pub stops_part : (due : Bool) (n : ℕ) (r : List ℕ) → stops r ≡ true → stops (part due n ++ r) ≡ true
unfolding part
stops_part true n r e = refl
stops_part false n r e = e

stops_if : (b : Bool) (u v r : List ℕ) → stops (u ++ r) ≡ true → stops (v ++ r) ≡ true → stops (cond b u v ++ r) ≡ true
stops_if true u v r e f = e
stops_if false u v r e f = f

pub stops_order : (o : ℕ) (r : List ℕ) → stops r ≡ true → stops (order_word o ++ r) ≡ true
unfolding order_word
stops_order o r e =
    stops_if (eqb o 1) _ _ r refl (stops_if (eqb o 2) _ _ r refl (stops_if (eqb o 3) _ _ r refl
    (stops_if (eqb o 4) _ _ r refl (stops_if (eqb o 5) _ _ r refl (stops_if (eqb o 6) _ _ r refl e)))))

-- ---- fields

pub true_false : {A : Type 0} → true ≡ false → A
true_false z = not_both refl z

pub field_read : (s : List ℕ) (due : Bool) (none n q : ℕ) (r : List ℕ) → drop q s ≡ part due n ++ r → n < 4294967296 → (due ≡ false → n ≡ none) → stops r ≡ true → field_at s due none q ≡ record { value = n; next = q + length (part due n) }
unfolding field_at part
field_read s true none n q r d l z e =
    let w : length s - q ≡ suc (length (decimal n ++ r)) = sym (length-drop q s) ∙ ap (λ (x : List ℕ). length x) d in
    let f : drop (q + 1) s ≡ decimal n ++ r = after_line s q (space ∷ []) (decimal n ++ r) d in
    let g : q + 1 + length (decimal n) ≡ q + suc (length (decimal n)) = omega arith in
    rw (lt-ltb q (length s) (omega (arith, w)), f, scan_decimal n (q + 1) r l e, g)
field_read s false none n q r d l z e =
    let g : q ≡ q + 0 = omega arith in
    rw (z refl) (ap (λ (j : ℕ). record { value = none; next = j }) g)

-- ---- words

module _ (s : List ℕ) (q : ℕ) (r : List ℕ) where
  pub kind_read : (w : ActionKind) → drop q s ≡ kind_word (kind_number w) ++ r → kind_at s q ≡ kind_number w
  unfolding kind_at kind_word starts
  kind_read Lock d = rw d
  kind_read Unlock d = rw d
  kind_read (AtomicLoad m) d = rw d
  kind_read (AtomicStore m) d = rw d
  kind_read (ReadModifyWrite m) d = rw d
  kind_read Load d = rw d
  kind_read Store d = rw d
  kind_read (Fence m) d = rw d

  word_read : (m : MemoryOrder) → drop q s ≡ order_word (order_number m) ++ r → order_at s q ≡ order_number m
  unfolding order_at order_word starts
  word_read Relaxed d = rw d
  word_read Consume d = rw d
  word_read Acquire d = rw d
  word_read Release d = rw d
  word_read AcqRel d = rw d
  word_read SeqCst d = rw d

  pub order_read : (w : ActionKind) → drop q s ≡ order_word (order_in w) ++ r → cond (has_order (kind_number w)) (order_at s q) 0 ≡ order_in w
  order_read Lock d = refl
  order_read Unlock d = refl
  order_read (AtomicLoad m) d = word_read m d
  order_read (AtomicStore m) d = word_read m d
  order_read (ReadModifyWrite m) d = word_read m d
  order_read Load d = refl
  order_read Store d = refl
  order_read (Fence m) d = word_read m d

pub end_read : (s : List ℕ) (q : ℕ) (u r : List ℕ) → drop q s ≡ u ++ r → word_end s q u ≡ q + length u
unfolding word_end
end_read s q u r d = rw (d, starts_own u r)

-- ---- the line

-- the fields fit their types, and those that the kind doesn't have are as they are then
pub record Fitted (x : Action) : Type 0 where
  pub thread_fits : x.thread < 65536
  pub place_fits : x.place < 65536
  pub no_place : has_place (kind_number x.what) ≡ false → x.place ≡ 65535
  pub read_fits : x.read < 4294967296
  pub no_read : has_read (kind_number x.what) ≡ false → x.read ≡ 0
  pub written_fits : x.written < 4294967296
  pub no_written : has_written (kind_number x.what) ≡ false → x.written ≡ 0

pub action_read_lem : (s : List ℕ) (q : ℕ) (r : List ℕ) (x : Action) → Fitted x → drop q s ≡ action_line x ++ r → action_read s q ≡ x
unfolding action_line action_read clipped
action_read_lem s q r x h e =
    let k = kind_number x.what in
    let p1 = part true x.thread in
    let p2 = part (has_place (kind_number x.what)) x.place in
    let o = order_word (order_in x.what) in
    let p3 = part (has_read (kind_number x.what)) x.read in
    let p4 = part (has_written (kind_number x.what)) x.written in
    let r5 : List ℕ = newline ∷ r in
    let r4 = p4 ++ r5 in
    let r3 = p3 ++ r4 in
    let ro = o ++ r3 in
    let r2 = p2 ++ ro in
    let r1 = p1 ++ r2 in
    let d0 : drop q s ≡ kind_word k ++ r1 = e ∙ simp (append_assoc) in
    let q1 = q + length (kind_word k) in
    let d1 : drop q1 s ≡ r1 = after_line s q (kind_word k) r1 d0 in
    let s4 : stops r4 ≡ true = stops_part (has_written (kind_number x.what)) x.written r5 refl in
    let s3 : stops r3 ≡ true = stops_part (has_read (kind_number x.what)) x.read r4 s4 in
    let so : stops ro ≡ true = stops_order (order_in x.what) r3 s3 in
    let s2 : stops r2 ≡ true = stops_part (has_place (kind_number x.what)) x.place ro so in
    let f1 = field_read s true 0 x.thread q1 r2 d1 (omega (arith, h.thread_fits)) true_false s2 in
    let q2 = q1 + length p1 in
    let d2 : drop q2 s ≡ r2 = after_line s q1 p1 r2 d1 in
    let f2 = field_read s (has_place (kind_number x.what)) 65535 x.place q2 ro d2 (omega (arith, h.place_fits)) h.no_place so in
    let q3 = q2 + length p2 in
    let d3 : drop q3 s ≡ ro = after_line s q2 p2 ro d2 in
    let fo = order_read s q3 r3 x.what d3 in
    let q4 = q3 + length o in
    let d4 : drop q4 s ≡ r3 = after_line s q3 o r3 d3 in
    let f3 = field_read s (has_read (kind_number x.what)) 0 x.read q4 r4 d4 h.read_fits h.no_read s4 in
    let q5 = q4 + length p3 in
    let d5 : drop q5 s ≡ r4 = after_line s q4 p3 r4 d4 in
    let f4 = field_read s (has_written (kind_number x.what)) 0 x.written q5 r5 d5 h.written_fits h.no_written refl in
    rw (kind_read s q r1 x.what d0, end_read s q (kind_word k) r1 d0, f1, f2, fo, end_read s q3 o r3 d3, f3, f4, kind_found x.what, lt-ltb x.thread 65536 h.thread_fits, lt-ltb x.place 65536 h.place_fits, lt-ltb x.read 4294967296 h.read_fits, lt-ltb x.written 4294967296 h.written_fits)
