-- Truth values and comparisons. The laws of `&&` and `||` that the kit has (and_comm, and_assoc, or-comm, or-assoc, ..) are in mathlib.Core.Bool.
use Rattle.std.specs.Prelude.{ℕ, suc, ◌≤◌, ◌<◌, ◌⊎◌, ◌≡◌, refl, T, eqb, ltb}
use mathlib.Core.Bool.{Bool, true, false, not, ◌&&◌, ◌||◌, true≢false, and_assoc, and_comm, and_self, and_self_left}
use Rattle.std.proofs.Common.{inl, inr, ⊎_elim, sym, ap, subst, ◌∙◌, arith, eqb→eq, T_not, ltb-true, ltb-false, eqb-true, eq-eqb, lt-ltb}
use Rattle.std.proofs.Math.Dec.{eqb_refl, not_T}
use Rattle.std.proofs.lemmas.Bool.{eqb-false, not-true, not-false}

-- ---- with `T`

pub and_l : (a b : Bool) → T (a && b) → T a
and_l true b t = tt
and_l false b t = t

pub and_r : (a b : Bool) → T (a && b) → T b
and_r true b t = t
and_r false b t = absurd t

pub and_i : (a b : Bool) → T a → T b → T (a && b)
and_i true b s t = t
and_i false b s t = s

pub or_e : (a b : Bool) → T (a || b) → T a ⊎ T b
or_e true b t = inl tt
or_e false b t = inr t

pub or_l : (a b : Bool) → T a → T (a || b)
or_l true b t = tt
or_l false b t = absurd t

pub or_r : (a b : Bool) → T b → T (a || b)
or_r true b t = tt
or_r false b t = t

pub dec : (b : Bool) → T b ⊎ T (not b)
dec true = inl tt
dec false = inr tt

pub T_true : (b : Bool) → T b → b ≡ true
T_true true t = refl
T_true false t = absurd t

pub T_false : (b : Bool) → T (not b) → b ≡ false
T_false true t = absurd t
T_false false t = refl

pub true_T : {b : Bool} → b ≡ true → T b
true_T e = subst T (sym e) tt

pub eqb_i : (a b : ℕ) → a ≡ b → T (eqb a b)
eqb_i a b e = subst (λ (k : ℕ). T (eqb a k)) e (eqb_refl a)

pub neqb_e : (a b : ℕ) → T (not (eqb a b)) → a ≡ b → ⊥
neqb_e a b t e = T_not (eqb a b) t (eqb_i a b e)

pub neqb_i : (a b : ℕ) → (a ≡ b → ⊥) → T (not (eqb a b))
neqb_i a b f = not_T (eqb a b) (λ t. f (eqb→eq a b t))

-- ---- with equations

-- a test passes or fails
pub test : (a : Bool) → (a ≡ true) ⊎ (a ≡ false)
test true = inl refl
test false = inr refl

pub and_1 : (a b : Bool) → a && b ≡ true → a ≡ true
and_1 a b e = T_true a (and_l a b (true_T e))

pub and_2 : (a b : Bool) → a && b ≡ true → b ≡ true
and_2 a b e = T_true b (and_r a b (true_T e))

pub both_true : (a b : Bool) → a && b ≡ true → (a ≡ true) × (b ≡ true)
both_true a b e = (and_1 a b e, and_2 a b e)

pub both_false : (a b : Bool) → a || b ≡ false → (a ≡ false) × (b ≡ false)
both_false false b e = (refl, e)
both_false true b e = absurd (true≢false e)

pub and_both : {a b : Bool} → a ≡ true → b ≡ true → a && b ≡ true
and_both {b = b} p q = ap (λ (x : Bool). x && b) p ∙ q

pub or_cases : (a b : Bool) → a || b ≡ true → (a ≡ true) ⊎ (b ≡ true)
or_cases true b e = inl refl
or_cases false b e = inr e

pub or_1 : {a : Bool} (b : Bool) → a ≡ true → a || b ≡ true
or_1 b e = ap (λ (x : Bool). x || b) e

pub or_2 : (a : Bool) {b : Bool} → b ≡ true → a || b ≡ true
or_2 true e = refl
or_2 false e = e

pub not_both {ℓ} : {C : Type ℓ} {a : Bool} → a ≡ true → a ≡ false → C
not_both p q = absurd (true≢false (sym p ∙ q))

pub is_false : (a : Bool) → (a ≡ true → ⊥) → a ≡ false
is_false true h = absurd (h refl)
is_false false h = refl

-- a loop's test `!x.is_empty()`: x has a member, or none
pub some_left : {r t : Bool} → r ≡ not t → not r ≡ true → t ≡ true
some_left {r} {t} e h = not-false t (sym e ∙ not-true r h)

pub none_left : {r t : Bool} → r ≡ not t → not r ≡ false → t ≡ false
none_left {r} {t} e h = not-true t (sym e ∙ not-false r h)

-- two tests that follow from one another are equal
pub same : (a b : Bool) → (a ≡ true → b ≡ true) → (b ≡ true → a ≡ true) → a ≡ b
same true b f g = sym (f refl)
same false true f g = g refl
same false false f g = refl

pub same_T : (a b : Bool) → (T a → T b) → (T b → T a) → a ≡ b
same_T a b f g = same a b (λ e. T_true b (f (true_T e))) (λ e. T_true a (g (true_T e)))

-- ---- algebra beyond the kit's

pub and_left : (a b c : Bool) → (a && (b && c)) ≡ (b && (a && c))
and_left true b c = refl
and_left false true c = refl
and_left false false c = refl

pub not_or : (a b : Bool) → not (a || b) ≡ (not a && not b)
not_or true b = refl
not_or false b = refl

-- what is taken away from x is looked for in x
pub and_not_and : (x y : Bool) → (x && not (x && y)) ≡ (x && not y)
and_not_and true y = refl
and_not_and false y = refl

-- conjunctions in any order
pub ruleset Conj = (and_assoc, and_comm, and_left, and_self, and_self_left)

-- ---- numbers compared, with the fact

pub lt_or_le : (i n : ℕ) → (i < n) ⊎ (n ≤ i)
lt_or_le i n = ⊎_elim (λ e. inl (ltb-true i n e)) (λ e. inr (ltb-false i n e)) (test (ltb i n))

pub eq_or_ne : (i k : ℕ) → (i ≡ k) ⊎ (i ≡ k → ⊥)
eq_or_ne i k = ⊎_elim (λ e. inl (eqb-true i k e)) (λ e. inr (eqb-false i k e)) (test (eqb i k))

pub order3 : (a b : ℕ) → (a < b) ⊎ ((a ≡ b) ⊎ (b < a))
order3 a b = ⊎_elim (λ l. inl l) (λ l. ⊎_elim (λ e. inr (inl e)) (λ ne. inr (inr (omega arith))) (eq_or_ne a b)) (lt_or_le a b)

-- below suc n: n itself, or below n
pub top : (i n : ℕ) → i < suc n → (i ≡ n) ⊎ (i < n)
top i n h = ⊎_elim (λ l. inr l) (λ l. inl (omega arith)) (lt_or_le i n)

-- two comparisons that follow from one another
pub same_lt : (a b c d : ℕ) → (a < b → c < d) → (c < d → a < b) → ltb a b ≡ ltb c d
same_lt a b c d f g = same (ltb a b) (ltb c d) (λ e. lt-ltb c d (f (ltb-true a b e))) (λ e. lt-ltb a b (g (ltb-true c d e)))

pub same_eq : (a b c d : ℕ) → (a ≡ b → c ≡ d) → (c ≡ d → a ≡ b) → eqb a b ≡ eqb c d
same_eq a b c d f g = same (eqb a b) (eqb c d) (λ e. eq-eqb c d (f (eqb-true a b e))) (λ e. eq-eqb a b (g (eqb-true c d e)))

pub eqb_sym : (a b : ℕ) → eqb a b ≡ eqb b a
eqb_sym a b = same (eqb a b) (eqb b a) (λ e. eq-eqb b a (sym (eqb-true a b e))) (λ e. eq-eqb a b (sym (eqb-true b a e)))
