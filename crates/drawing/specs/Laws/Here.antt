-- A text stands in a list at a place: the first part of it, the rest, one of equal parts, a number.
use Rattle.std.specs.Prelude.{ℕ, zero, suc, ◌+◌, ◌*◌, ◌/◌, ◌%◌, ◌^◌, ◌<◌, ◌≤◌, ◌≡◌, refl, List, [], ◌∷◌, ◌++◌, length, get_or}
use Rattle.std.proofs.Common.{◌∙◌, ⊎_elim, arith, add-zero, zero-add, pow-suc, length-append, get_or-append-add}
use Rattle.std.proofs.Math.ListN.{get_or-append}
use Rattle.rows.specs.Laws.Truth.{top}
use Rattle.rows.specs.Numbers.{joined}
use Rattle.rows.specs.Laws.Lists.{joined_width}
use Rattle.drawing.specs.Files.{le_at, le}

-- u stands in s at `at`
pub record Here (s : List ℕ) (at : ℕ) (u : List ℕ) : Type 0 where
  pub room : at + length u ≤ length s
  pub same : (i : ℕ) → i < length u → get_or s (at + i) 0 ≡ get_or u i 0

-- the whole stands in itself
pub here_whole : (s : List ℕ) → Here s 0 s
here_whole s = record { room = omega arith; same = λ i l. rw zero-add }

-- the first of two parts
pub here_first : {s : List ℕ} {at : ℕ} {u : List ℕ} (v : List ℕ) → Here s at (u ++ v) → Here s at u
here_first {u = u} v h =
    let e = length-append u v in
    record { room = omega arith; same = λ i l. h.same i (omega arith) ∙ get_or-append u v 0 i l }

-- the rest, at the place b after the first w elements
pub here_rest : {s : List ℕ} {at w b : ℕ} (u : List ℕ) {v : List ℕ} → Here s at (u ++ v) → length u ≡ w → at + w ≡ b → Here s b v
here_rest {at = at} {b = b} u {v} h q r =
    let e = length-append u v in
    record {
      room = omega arith;
      same = λ i l.
          let f : at + (length u + i) ≡ b + i = omega arith in
          rw f at (h.same (length u + i) (omega arith)) ∙ get_or-append-add u v i 0;
    }

-- part i of n parts of w elements
pub here_part : {s : List ℕ} {at : ℕ} (f : ℕ → List ℕ) (w : ℕ) → ((c : ℕ) → length (f c) ≡ w) → (n : ℕ) → Here s at (joined n f) → (i : ℕ) → i < n → Here s (at + w * i) (f i)
unfolding joined
here_part f w e zero h i l = absurd (let z : ⊥ = omega arith in z)
here_part {at = at} f w e (suc n) h i l =
    ⊎_elim
    (λ (q : i ≡ n). rw q (here_rest (joined n f) h (joined_width f w e n) refl))
    (λ (q : i < n). here_part f w e n (here_first (f n) h) i q)
    (top i n l)

-- ---- numbers

-- what is read inside a text that stands here
pub le_here : {s : List ℕ} {at : ℕ} {u : List ℕ} → Here s at u → (i w : ℕ) → i + w ≤ length u → le_at s (at + i) w ≡ le_at u i w
unfolding le_at
le_here h i zero l = refl
le_here {at = at} h i (suc w) l =
    let e : at + i + 1 ≡ at + (i + 1) = omega arith in
    rw (e, le_here h (i + 1) w (omega arith), h.same i (omega arith))

-- a number that was written
pub le_written : {s : List ℕ} {at : ℕ} (w x : ℕ) → Here s at (le w x) → x < 256 ^ w → le_at s at w ≡ x
unfolding le_at le
le_written zero x h l = omega arith
le_written {s = s} {at = at} (suc w) x h l =
    let z : x < 256 ^ w * 256 = rw pow-suc at l in
    let rest = le_written {at = at + 1} w (x / 256) (here_rest (x % 256 ∷ []) h refl refl) (omega arith) in
    omega (arith, rw (add-zero at) at (h.same 0 (omega arith)))
