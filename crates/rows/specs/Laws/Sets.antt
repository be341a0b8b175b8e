-- Laws of sets, and of relations between the numbers below a bound.
use Rattle.std.specs.Prelude.{ℕ, ◌+◌, ◌≤◌, ◌<◌, Bool, false, ◌&&◌, ◌||◌, ◌≡◌, eqb, ltb}
use Rattle.std.proofs.Math.Bool.{and-true, and-false, and-or_distrib_right, and_comm}
use Rattle.std.proofs.Common.{⊎_elim, sym, ap, ap₂, ◌∙◌, arith, lt-ltb, le-ltb, ne_eqb}
use Rattle.std.proofs.Math.Path.{fun_ext}
use Rattle.rows.specs.Laws.Truth.{and_not_and, lt_or_le, eq_or_ne}
use Rattle.rows.specs.Sets.{Set, Rel, none, both, either, less, when, single, at, before, after, within}

-- past the last member there is none
pub after_out : (s : Set) (a : ℕ) → ((b : ℕ) → a < b → s b ≡ false) → after s a ≡ none
after_out s a h = fun_ext λ b. ⊎_elim (λ (l : a < b). rw (h b l)) (λ (l : b ≤ a). rw (le-ltb a b l) (and-false (s b))) (lt_or_le a b)

-- a mask may be cut where the set ends
pub both_in : (n : ℕ) (s t : Set) → ((b : ℕ) → n ≤ b → s b ≡ false) → both s (before t n) ≡ both s t
both_in n s t out = fun_ext λ b. ⊎_elim (λ (l : b < n). rw (lt-ltb b n l, and-true (t b))) (λ (l : n ≤ b). rw (out b l)) (lt_or_le b n)

pub less_in : (n : ℕ) (s t : Set) → ((b : ℕ) → n ≤ b → s b ≡ false) → less s (before t n) ≡ less s t
less_in n s t out = fun_ext λ b. ⊎_elim (λ (l : b < n). rw (lt-ltb b n l, and-true (t b))) (λ (l : n ≤ b). rw (out b l)) (lt_or_le b n)

pub single_before : (k n : ℕ) → before (single k) n ≡ when (ltb k n) (single k)
single_before k n = fun_ext λ b. ⊎_elim (λ (e : b ≡ k). rw e (and_comm (eqb k k) (ltb k n))) (λ (ne : b ≡ k → ⊥). rw (ne_eqb b k ne) (sym (and-false (ltb k n)))) (eq_or_ne b k)

pub less_below : (s : Set) (a : ℕ) → less s (λ b. ltb b (a + 1)) ≡ after s a
less_below s a = fun_ext λ b. ap (λ (t : Bool). s b && t) (⊎_elim
    (λ (l : a < b). let p : a + 1 ≤ b = omega arith in rw (le-ltb b (a + 1) p, lt-ltb a b l))
    (λ (l : b ≤ a). let p : b < a + 1 = omega arith in rw (lt-ltb b (a + 1) p, le-ltb a b l)) (lt_or_le a b))

pub at_single : (s : Set) (k : ℕ) → at s k ≡ when (s k) (single k)
at_single s k = fun_ext λ b. ⊎_elim (λ (e : b ≡ k). rw e) (λ (ne : b ≡ k → ⊥). rw (ne_eqb b k ne, and-false (s b)) (sym (and-false (s k)))) (eq_or_ne b k)

-- what is taken away is looked for among the members
pub less_both : (s t : Set) → less s (both s t) ≡ less s t
less_both s t = fun_ext λ b. and_not_and (s b) (t b)

-- sets with the same members below n
pub before_ext : (n : ℕ) (s t : Set) → ((b : ℕ) → b < n → s b ≡ t b) → before s n ≡ before t n
before_ext n s t h = fun_ext λ b. ⊎_elim (λ (l : b < n). rw (h b l)) (λ (l : n ≤ b). rw (le-ltb b n l, and-false (s b), and-false (t b))) (lt_or_le b n)

-- and so have what is in either of two
pub before_either : (n : ℕ) (s t u v : Set) → before s n ≡ before u n → before t n ≡ before v n → before (either s t) n ≡ before (either u v) n
before_either n s t u v su tv = fun_ext λ b.
    and-or_distrib_right (s b) (t b) (ltb b n)
    ∙ ap₂ (λ (f g : Set). f b || g b) su tv
    ∙ sym (and-or_distrib_right (u b) (v b) (ltb b n))

-- ---- between numbers below n

pub within_at : (n : ℕ) (r : Rel) (a b : ℕ) → a < n → b < n → within n r a b ≡ r a b
within_at n r a b la lb = rw (lt-ltb a n la, lt-ltb b n lb) (and-true (r a b))

pub within_ext : (n : ℕ) (r q : Rel) → ((a b : ℕ) → a < n → b < n → r a b ≡ q a b) → within n r ≡ within n q
within_ext n r q h = fun_ext λ a. fun_ext λ b. ⊎_elim
    (λ (l : a < n). rw (lt-ltb a n l) (ap (λ (s : Set). s b) (before_ext n (r a) (q a) (λ b m. h a b l m))))
    (λ (l : n ≤ a). rw (le-ltb a n l))
    (lt_or_le a n)
