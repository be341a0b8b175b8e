-- Laws of little-endian numbers, over the width.
use Rattle.std.specs.Prelude.{ℕ, zero, suc, ◌+◌, ◌*◌, ◌-◌, ◌/◌, ◌%◌, ◌^◌, ◌<◌, ◌≤◌, ◌≡◌, refl, List, [], ◌∷◌, ◌++◌, length, get_or}
use Rattle.std.proofs.Common.{sym, ap, ◌∙◌, ⊎_elim, append-nil, arith, zero-add, add-zero, pow-suc, lt_of_lt_of_le, eq-or-lt_of_le}
use Rattle.std.proofs.Math.Nat.{pow-le-pow_right}
use Rattle.rows.specs.Numbers.{joined}
use Rattle.drawing.specs.Files.{le_at, le}

-- every element is a byte
abbrev pub Bytes : List ℕ → Type 0
Bytes s = (i : ℕ) → get_or s i 0 < 256

pub le_none : (s : List ℕ) (p : ℕ) → le_at s p 0 ≡ 0
unfolding le_at
le_none s p = refl

pub le_more : (s : List ℕ) (p w : ℕ) → le_at s p (suc w) ≡ le_at s (p + 1) w * 256 + get_or s p 0
unfolding le_at
le_more s p w = refl

-- a number of w bytes is below 256 to the w
pub le_below : (s : List ℕ) → Bytes s → (p w : ℕ) → le_at s p w < 256 ^ w
unfolding le_at
le_below s b p zero = omega arith
le_below s b p (suc w) = rw pow-suc (omega (arith, le_below s b (p + 1) w, b p))

-- one byte more in front
pub le_step : (s : List ℕ) (at w k : ℕ) → 0 < k → k ≤ w → le_at s (at + k) (w - k) * 256 + get_or s (at + (k - 1)) 0 ≡ le_at s (at + (k - 1)) (w - (k - 1))
le_step s at w k l m =
    let e : w - (k - 1) ≡ suc (w - k) = omega arith in
    let f : at + (k - 1) + 1 ≡ at + k = omega arith in
    rw (e, le_more, f)

-- a number of v bytes and w more, low part first
pub le_parts : (s : List ℕ) (at v w : ℕ) → le_at s at (v + w) ≡ le_at s (at + v) w * 256 ^ v + le_at s at v
unfolding le_at
le_parts s at zero w = rw (zero-add w, add-zero at) (omega arith)
le_parts s at (suc v) w =
    let e : suc v + w ≡ suc (v + w) = omega arith in
    let f : at + 1 + v ≡ at + suc v = omega arith in
    rw (e, le_parts s (at + 1) v w, f, pow-suc) (omega arith)

-- a number of at most 7 bytes leaves room for one byte more in 64 bits
pub le_fits : (s : List ℕ) → Bytes s → (p w : ℕ) → w < 8 → le_at s p w < 2 ^ 56
le_fits s b p w l = lt_of_lt_of_le (le_below s b p w) (pow-le-pow_right {n = 256} (omega arith) {j = 7} (omega arith))

-- equal numbers of w bytes have equal bytes
pub le_same_bytes : (s u : List ℕ) → Bytes s → Bytes u → (p w : ℕ) → le_at s p w ≡ le_at u p w → (i : ℕ) → p ≤ i → i < p + w → get_or s i 0 ≡ get_or u i 0
unfolding le_at
le_same_bytes s u b c p zero e i l m = absurd (let z : ⊥ = omega arith in z)
le_same_bytes s u b c p (suc w) e i l m =
    let here : get_or s p 0 ≡ get_or u p 0 = omega (arith, b p, c p, e) in
    let rest : le_at s (p + 1) w ≡ le_at u (p + 1) w = omega (arith, b p, c p, e) in
    ⊎_elim (λ (q : p ≡ i). rw (sym q) here) (λ q. le_same_bytes s u b c (p + 1) w rest i (omega arith) (omega arith)) (eq-or-lt_of_le l)

-- ---- numbers written

pub le_length : (w x : ℕ) → length (le w x) ≡ w
unfolding le
le_length zero x = refl
le_length (suc w) x = ap suc (le_length w _)

-- the low part of v bytes, then w more
pub le_both : (v w y x : ℕ) → x < 256 ^ v → le (v + w) (y * 256 ^ v + x) ≡ le v x ++ le w y
unfolding le
le_both zero w y x l = let e : y * 256 ^ 0 + x ≡ y = omega arith in rw (zero-add w, e)
le_both (suc v) w y x l =
    let p : y * 256 ^ suc v ≡ y * 256 ^ v * 256 = rw pow-suc (omega arith) in
    let d : suc v + w ≡ suc (v + w) = omega arith in
    let e : (y * 256 ^ suc v + x) % 256 ≡ x % 256 = omega arith in
    let f : (y * 256 ^ suc v + x) / 256 ≡ y * 256 ^ v + x / 256 = omega arith in
    rw (d, e, f, le_both v w y (x / 256) (omega (arith, pow-suc 256 v)))

-- or none
pub le_low : (v y x : ℕ) → x < 256 ^ v → le v (y * 256 ^ v + x) ≡ le v x
unfolding le
le_low v y x l = ap (λ (k : ℕ). le k (y * 256 ^ v + x)) (sym (add-zero v)) ∙ le_both v 0 y x l ∙ append-nil (le v x)

pub le_bytes : (w x : ℕ) → Bytes (le w x)
unfolding le
le_bytes zero x i = omega arith
le_bytes (suc w) x zero = omega arith
le_bytes (suc w) x (suc i) = le_bytes w _ i

-- lists of bytes one after another
pub bytes_append : (u v : List ℕ) → Bytes u → Bytes v → Bytes (u ++ v)
bytes_append [] v b c i = c i
bytes_append (x ∷ u) v b c zero = b zero
bytes_append (x ∷ u) v b c (suc i) = bytes_append u v (λ j. b (suc j)) c i

pub bytes_joined : (f : ℕ → List ℕ) → ((c : ℕ) → Bytes (f c)) → (n : ℕ) → Bytes (joined n f)
unfolding joined
bytes_joined f b zero = λ i. omega arith
bytes_joined f b (suc n) = bytes_append (joined n f) (f n) (bytes_joined f b n) (b n)
