-- Decimal digits.
use Rattle.std.specs.Prelude.{ℕ, zero, suc, ◌+◌, ◌-◌, ◌*◌, ◌/◌, ◌%◌, ◌<◌, ◌≤◌, Bool, true, false, cond, List, [], ◌∷◌, ◌++◌, ◌≡◌, refl, ltb}
use Rattle.std.proofs.Common.{ap, ◌∙◌, le_refl, arith, lt-ltb, le-ltb, ltb-false}
use Rattle.page.specs.Lines.{digits, decimal}

-- tenths beyond those that are enough change nothing
digits_enough : (k j n : ℕ) → n ≤ k → n ≤ j → digits k n ≡ digits j n
unfolding digits
digits_enough zero zero n h i = refl
digits_enough zero (suc j) n h i = rw (lt-ltb n 10 (omega arith))
digits_enough (suc k) zero n h i = rw (lt-ltb n 10 (omega arith))
digits_enough (suc k) (suc j) n h i = go (ltb n 10) refl (λ p q. digits_enough k j (n / 10) p q)
  where
    go :
        (b : Bool)
        → ltb n 10 ≡ b
        → (n / 10 ≤ k → n / 10 ≤ j → digits k (n / 10) ≡ digits j (n / 10))
        → cond b ((48 + n) ∷ []) (digits k (n / 10) ++ ((48 + n % 10) ∷ [])) ≡ cond b ((48 + n) ∷ []) (digits j (n / 10) ++ ((48 + n % 10) ∷ []))
    go true e f = refl
    go false e f = ap (λ (d : List ℕ). d ++ ((48 + n % 10) ∷ [])) (f (omega (arith, ltb-false n 10 e)) (omega (arith, ltb-false n 10 e)))

pub decimal_digit : (n : ℕ) → n < 10 → decimal n ≡ (48 + n) ∷ []
unfolding decimal digits
decimal_digit zero h = refl
decimal_digit (suc n) h = rw (lt-ltb (suc n) 10 h)

pub decimal_more : (n : ℕ) → 10 ≤ n → decimal n ≡ decimal (n / 10) ++ ((48 + n % 10) ∷ [])
unfolding decimal digits
decimal_more zero h = absurd (omega arith)
decimal_more (suc n) h = rw (le-ltb (suc n) 10 h) (ap (λ (d : List ℕ). d ++ ((48 + suc n % 10) ∷ [])) (digits_enough n (suc n / 10) (suc n / 10) (omega arith) (omega arith)))

-- ---- the digits of n read back are n, so no two numbers look alike

unfoldable pub value : ℕ → List ℕ → ℕ
value x [] = x
value x (d ∷ ds) = value (x * 10 + (d - 48)) ds

value_more : (x : ℕ) (ds : List ℕ) (d : ℕ) → value x (ds ++ (d ∷ [])) ≡ value x ds * 10 + (d - 48)
unfolding value
value_more x [] d = refl
value_more x (c ∷ ds) d = value_more (x * 10 + (c - 48)) ds d

digits_value : (k n : ℕ) → n ≤ k → value 0 (digits k n) ≡ n
unfolding digits value
digits_value zero n h = omega arith
digits_value (suc k) n h = go (ltb n 10) refl (λ l. digits_value k (n / 10) l)
  where
    go :
        (b : Bool)
        → ltb n 10 ≡ b
        → (n / 10 ≤ k → value 0 (digits k (n / 10)) ≡ n / 10)
        → value 0 (cond b ((48 + n) ∷ []) (digits k (n / 10) ++ ((48 + n % 10) ∷ []))) ≡ n
    go true e f = omega arith
    go false e f = value_more 0 (digits k (n / 10)) (48 + n % 10) ∙ omega (arith, f (omega (arith, ltb-false n 10 e)))

pub decimal_value : (n : ℕ) → value 0 (decimal n) ≡ n
unfolding decimal
decimal_value n = digits_value n n (le_refl n)
