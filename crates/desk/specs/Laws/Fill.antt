-- Rows cut at n, and a part filled with them row after row.
use Rattle.std.specs.Prelude.{ℕ, ◌+◌, ◌≤◌, ◌<◌, Bool, true, false, ◌&&◌, cond, ◌≡◌, refl, eqb, ltb}
use Rattle.std.proofs.Common.{zero-le, sym, ◌∙◌, ap, ⊎_elim, le_refl, arith, lt-ltb, le-ltb, eq-eqb, ne_eqb}
use Rattle.std.proofs.Math.Bool.{and-false}
use Rattle.std.proofs.Math.Path.{fun_ext}
use Rattle.rows.specs.Sets.{Set, Rel, any, least, none, never, when, without, before, within, Covers}
use Rattle.rows.specs.Laws.Truth.{test, same_lt, lt_or_le, eq_or_ne}
use Rattle.rows.specs.Numbers.{size}
use Rattle.rows.proofs.Laws.Quantifiers.{any_no}
use Rattle.rows.proofs.Laws.Covers.{covers_none}
use Rattle.rows.proofs.Laws.Loops.{Going, go_none, go_next, go_more, go_done}
use Rattle.rows.specs.Laws.Sets.{before_ext}

-- a row's own bound falls away
pub before_size : (n : ℕ) (s : Set) → n ≤ size → before (λ b. ltb b size && s b) n ≡ before s n
before_size n s small = before_ext n (λ b. ltb b size && s b) s λ b l. let m : b < size = omega arith in rw (lt-ltb b size m)

-- the rows of q below a, cut at n: once a is n, q between numbers below n
abbrev pub rows_below : ℕ → ℕ → Rel → Rel
rows_below n a q x b = ltb x a && q x b && ltb b n

pub rows_none : (n : ℕ) (q : Rel) → never ≡ rows_below n 0 q
rows_none n q = fun_ext λ x. fun_ext λ b. rw (le-ltb x 0 zero-le)

pub rows_more : (n a : ℕ) (q now new : Rel) (s : Set) → now ≡ rows_below n a q → ((x : ℕ) → new x ≡ cond (eqb x a) s (now x)) → s ≡ before (q a) n → new ≡ rows_below n (a + 1) q
rows_more n a q now new s inv put here = fun_ext λ x. put x ∙ ⊎_elim
    (λ (e : x ≡ a). let l : a < a + 1 = omega arith in rw (e, eq-eqb a a refl, here) (fun_ext λ b. rw (lt-ltb a (a + 1) l)))
    (λ (ne : x ≡ a → ⊥). rw (ne_eqb x a ne, inv) (fun_ext λ b. ap (λ (t : Bool). t && q x b && ltb b n) (same_lt x a x (a + 1) (λ l. omega arith) (λ l. omega arith))))
    (eq_or_ne x a)

-- ---- the same where only the rows of some members are worked out: the others lead nowhere

-- the rows of q up to the next member of s are filled, and the rows of the members left are to come
abbrev pub Filling : ℕ → Rel → Set → Rel → Set → Type 0
Filling n q s now left = Going n s (λ k. now ≡ rows_below n k q) left

pub filling_none : (n : ℕ) (q : Rel) (s : Set) → Filling n q s never (before s n)
filling_none n q s = go_none n s (λ k. never ≡ rows_below n k q) (rows_none n q)

module _ (n : ℕ) (q : Rel) (s : Set) (covers : Covers n q s) (now : Rel) (left : Set) (g : Filling n q s now left) where
  over : (k : ℕ) → k < n → s k ≡ false → now ≡ rows_below n k q → now ≡ rows_below n (k + 1) q
  over k l out inv =
      let empty = any_no n (q k) (covers_none n q s covers k l out) in
      rows_more n k q now now (now k) inv (λ x. ⊎_elim (λ (e : x ≡ k). rw (e, eq-eqb k k refl)) (λ (ne : x ≡ k → ⊥). rw (ne_eqb x k ne)) (eq_or_ne x k))
      (ap (λ (r : Rel). r k) inv ∙ (fun_ext λ b. rw (le-ltb k k (le_refl k))) ∙ before_ext n none (q k) (λ b m. sym (empty b m)))

  -- the row of the lowest member left
  pub filling_more : (new : Rel) (row : Set) → any size left ≡ true → ((x : ℕ) → new x ≡ cond (eqb x (least size left)) row (now x))
      → (least size left < n → s (least size left) ≡ true → row ≡ before (q (least size left)) n) → Filling n q s new (without left (least size left))
  filling_more new row some put here =
      let (low, hit, inv) = go_next size n s (λ k. now ≡ rows_below n k q) over left g some in
      go_more size n s (λ k. now ≡ rows_below n k q) over left g (λ k. new ≡ rows_below n k q) some
      (rows_more n (least size left) q now new row inv put (here low hit))

  pub filling_done : n ≤ size → any size left ≡ false → now ≡ within n q
  filling_done h none = go_done size n s (λ k. now ≡ rows_below n k q) over left g h none

-- the rows of the members of a set that has each number from which q leads anywhere, cut at n
pub covered_rows : (n : ℕ) (q : Rel) (s : Set) → Covers n q s → (λ a. when (before s n a) (before (q a) n)) ≡ within n q
covered_rows n q s covers = fun_ext λ a. ⊎_elim
    (λ (l : a < n). ⊎_elim
    (λ (e : s a ≡ true). fun_ext λ b. rw (e, lt-ltb a n l))
    (λ (e : s a ≡ false). fun_ext λ b. rw (e, lt-ltb a n l) (ap (λ (t : Set). t b) (before_ext n none (q a) (λ c m. sym (any_no n (q a) (covers_none n q s covers a l e) c m)))))
    (test (s a)))
    (λ (l : n ≤ a). fun_ext λ b. rw (le-ltb a n l, and-false (s a)))
    (lt_or_le a n)
