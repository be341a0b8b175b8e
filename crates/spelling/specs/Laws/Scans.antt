-- Numbers are read back as they were written.
use Rattle.std.specs.Prelude.{ℕ, zero, suc, ◌+◌, ◌*◌, ◌-◌, ◌/◌, ◌%◌, ◌<◌, ◌≤◌, Bool, true, false, cond, not, ◌&&◌, List, [], ◌∷◌, ◌++◌, ◌≡◌, refl, ltb, length}
use Rattle.std.proofs.Common.{ap, ◌∙◌, arith, le_refl, lt-ltb, le-leb, ltb-true, ltb-false}
use Rattle.std.proofs.lemmas.Bool.{not-true}
use Rattle.rows.specs.Laws.Truth.{both_true}
use Rattle.page.specs.Lines.{digits, decimal}
use Rattle.page.specs.Laws.Numbers.{value, decimal_value}
use Rattle.spelling.specs.Spelling.{digit, longer, scan, clipped}

-- digits only
unfoldable pub digital : List ℕ → Bool
digital [] = true
digital (d ∷ ds) = digit d && digital ds

-- no digit is next
abbrev pub stops : List ℕ → Bool
stops [] = true
stops (d ∷ r) = not (digit d)

digital_more : (ds : List ℕ) (d : ℕ) → digital ds ≡ true → digit d ≡ true → digital (ds ++ (d ∷ [])) ≡ true
unfolding digital
digital_more [] d e f = rw f
digital_more (c ∷ ds) d e f =
    let p = both_true (digit c) (digital ds) e in
    rw p.0 (digital_more ds d p.1 f)

digit_is : (n : ℕ) → n < 10 → digit (48 + n) ≡ true
digit_is n l = rw (le-leb 48 (48 + n) (omega arith), le-leb (48 + n) 57 (omega arith))

digits_digital : (k n : ℕ) → n ≤ k → digital (digits k n) ≡ true
unfolding digits digital
digits_digital zero n h = rw (digit_is n (omega arith))
digits_digital (suc k) n h = go (ltb n 10) refl (λ l. digits_digital k (n / 10) l)
  where
    go : (b : Bool) → ltb n 10 ≡ b → (n / 10 ≤ k → digital (digits k (n / 10)) ≡ true) → digital (cond b ((48 + n) ∷ []) (digits k (n / 10) ++ ((48 + n % 10) ∷ []))) ≡ true
    go true e f = rw (digit_is n (ltb-true n 10 e))
    go false e f = digital_more (digits k (n / 10)) (48 + n % 10) (f (omega (arith, ltb-false n 10 e))) (digit_is (n % 10) (omega arith))

pub decimal_digital : (n : ℕ) → digital (decimal n) ≡ true
unfolding decimal
decimal_digital n = digits_digital n n (le_refl n)

value_grows : (x : ℕ) (ds : List ℕ) → x ≤ value x ds
unfolding value
value_grows x [] = le_refl x
value_grows x (d ∷ ds) = omega (arith, value_grows (x * 10 + (d - 48)) ds)

scan_stops : (x q : ℕ) (r : List ℕ) → stops r ≡ true → scan x q r ≡ record { value = x; next = q }
unfolding scan longer
scan_stops x q [] e = refl
scan_stops x q (d ∷ r) e = rw (not-true (digit d) e)

scan_digits : (x q : ℕ) (ds r : List ℕ) → digital ds ≡ true → value x ds < 4294967296 → stops r ≡ true → scan x q (ds ++ r) ≡ record { value = value x ds; next = q + length ds }
unfolding scan longer digital value
scan_digits x q [] r e l f = let z : q ≡ q + 0 = omega arith in scan_stops x q r f ∙ ap (λ (j : ℕ). record { value = x; next = j }) z
scan_digits x q (d ∷ ds) r e l f =
    let p = both_true (digit d) (digital ds) e in
    let z : q + 1 + length ds ≡ q + suc (length ds) = omega arith in
    rw (p.0, lt-ltb x 4294967296 (omega (arith, value_grows (x * 10 + (d - 48)) ds)))
    (scan_digits (x * 10 + (d - 48)) (q + 1) ds r p.1 l f ∙ ap (λ (j : ℕ). record { value = value (x * 10 + (d - 48)) ds; next = j }) z)

-- a number that was written is read, and where it ends
pub scan_decimal : (n q : ℕ) (r : List ℕ) → n < 4294967296 → stops r ≡ true → scan 0 q (decimal n ++ r) ≡ record { value = n; next = q + length (decimal n) }
scan_decimal n q r l f =
    scan_digits 0 q (decimal n) r (decimal_digital n) (rw (decimal_value n) l) f
    ∙ ap (λ (v : ℕ). record { value = v; next = q + length (decimal n) }) (decimal_value n)

-- what is left after the digits in front
unfoldable pub past : List ℕ → List ℕ
past [] = []
past (d ∷ r) = cond (digit d) (past r) (d ∷ r)

past_stops : (r : List ℕ) → stops r ≡ true → past r ≡ r
unfolding past
past_stops [] e = refl
past_stops (d ∷ r) e = rw (not-true (digit d) e)

past_digits : (ds r : List ℕ) → digital ds ≡ true → stops r ≡ true → past (ds ++ r) ≡ r
unfolding past digital
past_digits [] r e f = past_stops r f
past_digits (d ∷ ds) r e f =
    let p = both_true (digit d) (digital ds) e in
    rw p.0 (past_digits ds r p.1 f)

pub past_decimal : (n : ℕ) (r : List ℕ) → stops r ≡ true → past (decimal n ++ r) ≡ r
past_decimal n r f = past_digits (decimal n) r (decimal_digital n) f

-- a number that is clipped is below the most
pub clipped_below : (m x : ℕ) → 0 < m → clipped m x < m
unfolding clipped
clipped_below m x h = go (ltb x m) refl
  where
    go : (t : Bool) → ltb x m ≡ t → cond t x 0 < m
    go true e = ltb-true x m e
    go false e = h
