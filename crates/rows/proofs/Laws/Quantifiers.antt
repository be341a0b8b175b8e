-- What `any`, `all`, `least`, `count` and `sum` mean over the numbers below a bound.
use Rattle.std.specs.Prelude.{ℕ, zero, suc, ◌+◌, ◌*◌, ◌≤◌, ◌<◌, Bool, true, false, not, ◌&&◌, ◌||◌, cond, ◌≡◌, refl, T, eqb, ltb}
use Rattle.std.proofs.Common.{zero-le, suc-le-suc, ⊎_elim, sym, ap, ap₂, subst, ◌∙◌, not-suc-le-zero, le_of_suc-le-suc, le_refl, zero-lt-suc, add_assoc, add_comm, add-zero, add-suc, mul-suc, add-one, arith, ltb-true, ltb-false, lt-ltb, le-ltb, eqb-true, eq-eqb, ne_eqb}
use Rattle.std.proofs.Math.Bool.{and-true, and-false}
use Rattle.std.proofs.Math.Decide.{le_ind}
use Rattle.std.proofs.Math.Nat.{le_step}
use Rattle.std.proofs.lemmas.Bool.{not-true}
use Rattle.rows.specs.Laws.Truth.{T_true, true_T, test, and_1, and_2, and_both, or_cases, or_1, or_2, not_both, is_false, same, lt_or_le, eq_or_ne, top}
use Rattle.rows.specs.Sets.{Set, any, all, least, count, sum, without, before}

-- ---- any

pub any_in : (n : ℕ) (f : Set) (c : ℕ) → c < n → f c ≡ true → any n f ≡ true
unfolding any
any_in zero f c l e = absurd (not-suc-le-zero l)
any_in (suc n) f c l e = ⊎_elim (λ (q : c ≡ n). or_2 (any n f) (subst (λ (k : ℕ). f k ≡ true) q e)) (λ (q : c < n). or_1 (f n) (any_in n f c q e)) (top c n l)

pub any_out : (n : ℕ) (f : Set) → any n f ≡ true → (c : ℕ) × (c < n) × (f c ≡ true)
unfolding any
any_out zero f e = not_both e refl
any_out (suc n) f e =
    ⊎_elim (λ p. let x = any_out n f p in (x.0, le_step x.1, x.2)) (λ p. (n, le_refl (suc n), p)) (or_cases (any n f) (f n) e)

pub any_i : (n : ℕ) (f : Set) (c : ℕ) → c < n → T (f c) → T (any n f)
any_i n f c l t = true_T (any_in n f c l (T_true (f c) t))

pub any_e : (n : ℕ) (f : Set) → T (any n f) → (c : ℕ) × (c < n) × T (f c)
any_e n f t = let x = any_out n f (T_true (any n f) t) in (x.0, x.1, true_T x.2)

-- none passes
pub any_none : (n : ℕ) (f : Set) → ((c : ℕ) → c < n → f c ≡ false) → any n f ≡ false
any_none n f h = is_false (any n f) (λ e. let x = any_out n f e in not_both x.2 (h x.0 x.1))

pub any_no : (n : ℕ) (f : Set) → any n f ≡ false → (c : ℕ) → c < n → f c ≡ false
any_no n f e c l = is_false (f c) (λ t. not_both (any_in n f c l t) e)

-- what follows point by point
pub any_mono : (n : ℕ) (f g : Set) → ((c : ℕ) → c < n → f c ≡ true → g c ≡ true) → any n f ≡ true → any n g ≡ true
any_mono n f g h e = let x = any_out n f e in any_in n g x.0 x.1 (h x.0 x.1 x.2)

-- the same test, point by point
pub any_ext : (n : ℕ) (f g : Set) → ((c : ℕ) → c < n → f c ≡ g c) → any n f ≡ any n g
any_ext n f g h = same (any n f) (any n g) (any_mono n f g λ c l e. sym (h c l) ∙ e) (any_mono n g f λ c l e. h c l ∙ e)

pub any_or : (n : ℕ) (f g : Set) → any n (λ c. f c || g c) ≡ (any n f || any n g)
any_or n f g =
    same (any n (λ c. f c || g c)) (any n f || any n g)
    (λ e. let x = any_out n (λ c. f c || g c) e in
    ⊎_elim (λ p. or_1 (any n g) (any_in n f x.0 x.1 p)) (λ p. or_2 (any n f) (any_in n g x.0 x.1 p)) (or_cases (f x.0) (g x.0) x.2))
    (λ e. ⊎_elim (any_mono n f (λ c. f c || g c) λ c l p. or_1 (g c) p) (any_mono n g (λ c. f c || g c) λ c l p. or_2 (f c) p) (or_cases (any n f) (any n g) e))

pub any_and : (n : ℕ) (p : Bool) (f : Set) → any n (λ c. p && f c) ≡ (p && any n f)
any_and n true f = refl
any_and n false f = any_none n (λ c. false) (λ c l. refl)

-- at one point
pub any_at : (n k : ℕ) (f : Set) → k < n → any n (λ c. eqb c k && f c) ≡ f k
any_at n k f l =
    same (any n (λ c. eqb c k && f c)) (f k)
    (λ e. let x = any_out n (λ c. eqb c k && f c) e in subst (λ (c : ℕ). f c ≡ true) (eqb-true x.0 k (and_1 (eqb x.0 k) (f x.0) x.2)) (and_2 (eqb x.0 k) (f x.0) x.2))
    (λ e. any_in n (λ c. eqb c k && f c) k l (and_both (eq-eqb k k refl) e))

pub any_swap : (n m : ℕ) (f : ℕ → ℕ → Bool) → any n (λ a. any m (λ b. f a b)) ≡ any m (λ b. any n (λ a. f a b))
any_swap n m f = same (any n (λ a. any m (f a))) (any m (λ b. any n (λ a. f a b))) (turn n m f) (turn m n (λ b a. f a b))
  where
    turn : (n m : ℕ) (f : ℕ → ℕ → Bool) → any n (λ a. any m (λ b. f a b)) ≡ true → any m (λ b. any n (λ a. f a b)) ≡ true
    turn n m f e =
        let x = any_out n (λ a. any m (λ b. f a b)) e in
        let y = any_out m (f x.0) x.2 in
        any_in m (λ b. any n (λ a. f a b)) y.0 y.1 (any_in n (λ a. f a y.0) x.0 x.1 y.2)

-- a bound is a test
pub any_before : (n m : ℕ) (f : Set) → n ≤ m → any m (before f n) ≡ any n f
any_before n m f h =
    same (any m (before f n)) (any n f)
    (λ e. let x = any_out m (before f n) e in any_in n f x.0 (ltb-true x.0 n (and_2 (f x.0) (ltb x.0 n) x.2)) (and_1 (f x.0) (ltb x.0 n) x.2))
    (λ e. let x = any_out n f e in let l : x.0 < m = omega (arith, x.1) in any_in m (before f n) x.0 l (and_both x.2 (lt-ltb x.0 n x.1)))

-- ---- all

pub all_in : (n : ℕ) (f : Set) → ((c : ℕ) → c < n → f c ≡ true) → all n f ≡ true
unfolding all
all_in zero f h = refl
all_in (suc n) f h = and_both (all_in n f (λ c l. h c (le_step l))) (h n (le_refl (suc n)))

pub all_out : (n : ℕ) (f : Set) → all n f ≡ true → (c : ℕ) → c < n → f c ≡ true
unfolding all
all_out zero f e c l = absurd (not-suc-le-zero l)
all_out (suc n) f e c l =
    ⊎_elim (λ (q : c ≡ n). subst (λ (k : ℕ). f k ≡ true) (sym q) (and_2 (all n f) (f n) e)) (λ (q : c < n). all_out n f (and_1 (all n f) (f n) e) c q) (top c n l)

pub all_i : (n : ℕ) (f : Set) → ((c : ℕ) → c < n → T (f c)) → T (all n f)
all_i n f h = true_T (all_in n f λ c l. T_true (f c) (h c l))

pub all_e : (n : ℕ) (f : Set) → T (all n f) → (c : ℕ) → c < n → T (f c)
all_e n f t c l = true_T (all_out n f (T_true (all n f) t) c l)

pub all_ext : (n : ℕ) (f g : Set) → ((c : ℕ) → c < n → f c ≡ g c) → all n f ≡ all n g
all_ext n f g h =
    same (all n f) (all n g)
    (λ e. all_in n g (λ c l. sym (h c l) ∙ all_out n f e c l))
    (λ e. all_in n f (λ c l. h c l ∙ all_out n g e c l))

-- not all is some not
pub not_any : (n : ℕ) (f : Set) → not (any n f) ≡ all n (λ c. not (f c))
not_any n f =
    same (not (any n f)) (all n (λ c. not (f c)))
    (λ e. all_in n (λ c. not (f c)) (λ c l. ap not (any_no n f (not-true (any n f) e) c l)))
    (λ e. ap not (any_none n f (λ c l. not-true (f c) (all_out n (λ c. not (f c)) e c l))))

-- ---- least

-- m is the least number below n that passes f, or n
pub record Least (n : ℕ) (f : Set) (m : ℕ) : Type 0 where
  pub bound : m ≤ n
  pub hit : m < n → f m ≡ true
  pub miss : (i : ℕ) → i < m → f i ≡ false

least_step : (n : ℕ) (f : Set) (m : ℕ) (t s : Bool) → ltb m n ≡ t → f n ≡ s → Least n f m → Least (suc n) f (cond t m (cond s n (suc n)))
least_step n f m true s e e' h = record { bound = omega (arith, h.bound); hit = λ l. h.hit (ltb-true m n e); miss = h.miss }
least_step n f m false true e e' h =
    record {
      bound = omega arith;
      hit = λ l. e';
      miss = λ i l. h.miss i (omega (arith, ltb-false m n e));
    }
least_step n f m false false e e' h =
    record {
      bound = omega arith;
      hit = λ l. absurd (omega arith);
      miss = λ i l. ⊎_elim (λ (q : i ≡ n). ap f q ∙ e') (λ (k : i < n). h.miss i (omega (arith, ltb-false m n e))) (top i n l);
    }

pub least_is : (n : ℕ) (f : Set) → Least n f (least n f)
unfolding least
least_is zero f = record { bound = omega arith; hit = λ l. absurd (omega arith); miss = λ i l. absurd (omega arith) }
least_is (suc n) f = least_step n f (least n f) (ltb (least n f) n) (f n) refl refl (least_is n f)

pub least_unique : (n : ℕ) (f : Set) (a b : ℕ) → Least n f a → Least n f b → a ≡ b
least_unique n f a b p q =
    ⊎_elim
    (λ (l : a < b). not_both (p.hit (omega (arith, q.bound))) (q.miss a l))
    (λ (l : b ≤ a). ⊎_elim (λ (e : a ≡ b). e) (λ (ne : a ≡ b → ⊥). not_both (q.hit (omega (arith, p.bound))) (p.miss b (omega arith))) (eq_or_ne a b))
    (lt_or_le a b)

-- what is like the least is the least
pub least_eq : (n : ℕ) (f : Set) (m : ℕ) → Least n f m → least n f ≡ m
least_eq n f m h = least_unique n f (least n f) m (least_is n f) h

pub least_hit : (n : ℕ) (f : Set) (a : ℕ) → a < n → f a ≡ true → ((i : ℕ) → i < a → f i ≡ false) → least n f ≡ a
least_hit n f a l e h = least_eq n f a (record { bound = omega arith; hit = λ k. e; miss = h })

pub least_none : (n : ℕ) (f : Set) → any n f ≡ false → least n f ≡ n
least_none n f e = least_eq n f n (record { bound = le_refl n; hit = λ k. absurd (omega arith); miss = any_no n f e })

-- when some number passes, the least one is below n
pub least_below : (n : ℕ) (f : Set) (i : ℕ) → i < n → f i ≡ true → least n f < n
least_below n f i l e =
    ⊎_elim (λ h. h) (λ (h : n ≤ least n f). not_both e ((least_is n f).miss i (omega arith))) (lt_or_le (least n f) n)

pub least_any : (n : ℕ) (f : Set) → any n f ≡ true → least n f < n
least_any n f e = let x = any_out n f e in least_below n f x.0 x.1 x.2

pub least_test : (n : ℕ) (f : Set) → ltb (least n f) n ≡ any n f
least_test n f =
    same (ltb (least n f) n) (any n f)
    (λ e. let l = ltb-true (least n f) n e in any_in n f (least n f) l ((least_is n f).hit l))
    (λ e. lt-ltb (least n f) n (least_any n f e))

pub least_ext : (n : ℕ) (f g : Set) → ((c : ℕ) → c < n → f c ≡ g c) → least n f ≡ least n g
least_ext n f g h =
    let q = least_is n g in
    least_eq n f (least n g) (record {
      bound = q.bound;
      hit = λ l. h (least n g) l ∙ q.hit l;
      miss = λ i l. h i (omega (arith, q.bound)) ∙ q.miss i l;
    })

-- the least below n, from the least below more
pub least_under : (n m : ℕ) (f : Set) → n ≤ m → least n f ≡ cond (ltb (least m f) n) (least m f) n
least_under n m f h =
    let q = least_is m f in
    ⊎_elim
    (λ (l : least m f < n). rw (lt-ltb (least m f) n l) (least_hit n f (least m f) l (q.hit (omega arith)) q.miss))
    (λ (l : n ≤ least m f). rw (le-ltb (least m f) n l) (least_none n f (any_none n f λ c k. q.miss c (omega arith))))
    (lt_or_le (least m f) n)

-- from the front
pub least_front : (n : ℕ) (f : Set) → least (suc n) f ≡ cond (f 0) 0 (suc (least n (λ c. f (suc c))))
least_front n f =
    let q = least_is n (λ c. f (suc c)) in
    ⊎_elim
    (λ (e : f 0 ≡ true). rw e (least_hit (suc n) f 0 (zero-lt-suc n) e (λ i l. absurd (not-suc-le-zero l))))
    (λ (e : f 0 ≡ false). rw e (least_eq (suc n) f (suc (least n (λ c. f (suc c)))) (record {
      bound = suc-le-suc q.bound;
      hit = λ l. q.hit (le_of_suc-le-suc l);
      miss = front e q;
    })))
    (test (f 0))
  where
    front : f 0 ≡ false → Least n (λ c. f (suc c)) (least n (λ c. f (suc c))) → (i : ℕ) → i < suc (least n (λ c. f (suc c))) → f i ≡ false
    front e q zero l = e
    front e q (suc i) l = q.miss i (le_of_suc-le-suc l)

-- ---- count and sum

one_le : (t : Bool) → cond t 1 0 ≤ 1
one_le true = le_refl 1
one_le false = zero-le

pub count_le : (n : ℕ) (f : Set) → count n f ≤ n
unfolding count
count_le zero f = zero-le
count_le (suc n) f = omega (arith, count_le n f, one_le (f n))

pub count_ext : (n : ℕ) (f g : Set) → ((c : ℕ) → c < n → f c ≡ g c) → count n f ≡ count n g
unfolding count
count_ext zero f g h = refl
count_ext (suc n) f g h = ap₂ (λ (x : ℕ) (y : Bool). x + cond y 1 0) (count_ext n f g (λ c l. h c (le_step l))) (h n (le_refl (suc n)))

-- past n none passes: as many below more
pub count_short : (n m : ℕ) (f : Set) → n ≤ m → ((c : ℕ) → n ≤ c → f c ≡ false) → count m f ≡ count n f
unfolding count
count_short n m f l h = le_ind (λ (k : ℕ). count k f ≡ count n f) refl (λ k g ih. ap₂ (λ (x : ℕ) (y : Bool). x + cond y 1 0) ih (h k g) ∙ add-zero (count n f)) m l

-- a bound is a test
pub count_before : (n m : ℕ) (f : Set) → n ≤ m → count m (before f n) ≡ count n f
count_before n m f l =
    count_short n m (before f n) l (λ c g. rw (le-ltb c n g) (and-false (f c)))
    ∙ count_ext n (before f n) f (λ c k. rw (lt-ltb c n k) (and-true (f c)))

pub count_front : (n : ℕ) (f : Set) → count (suc n) f ≡ cond (f 0) 1 0 + count n (λ c. f (suc c))
unfolding count
count_front zero f = add_comm 0 (cond (f 0) 1 0)
count_front (suc n) f = ap (λ (k : ℕ). k + cond (f (suc n)) 1 0) (count_front n f) ∙ add_assoc (cond (f 0) 1 0) (count n (λ c. f (suc c))) (cond (f (suc n)) 1 0)

-- in two runs
pub count_split : (m n : ℕ) (f : Set) → count (m + n) f ≡ count m f + count n (λ i. f (m + i))
unfolding count
count_split m zero f = ap (λ (k : ℕ). count k f) (add-zero m) ∙ sym (add-zero (count m f))
count_split m (suc n) f =
    ap (λ (k : ℕ). count k f) (add-suc m n)
    ∙ ap (λ (k : ℕ). k + cond (f (m + n)) 1 0) (count_split m n f) ∙ add_assoc (count m f) (count n (λ i. f (m + i))) (cond (f (m + n)) 1 0)

-- nothing is counted just where nothing passes
pub count_none : (n : ℕ) (f : Set) → ((c : ℕ) → c < n → f c ≡ false) → count n f ≡ 0
unfolding count
count_none zero f h = refl
count_none (suc n) f h = rw (h n (le_refl (suc n)), count_none n f (λ c l. h c (le_step l)))

pub count_no : (n : ℕ) (f : Set) → count n f ≡ 0 → (c : ℕ) → c < n → f c ≡ false
unfolding count
count_no zero f e c l = absurd (not-suc-le-zero l)
count_no (suc n) f e c l =
    ⊎_elim
    (λ (q : c ≡ n). ap f q ∙ is_false (f n) (λ t. let z : count n f + 1 ≡ 0 = rw t at e in absurd (omega arith)))
    (λ (q : c < n). count_no n f (omega arith) c q)
    (top c n l)

-- one member less
pub count_without : (n : ℕ) (f : Set) (k : ℕ) → k < n → f k ≡ true → count n f ≡ count n (without f k) + 1
unfolding count
count_without zero f k l e = absurd (not-suc-le-zero l)
count_without (suc n) f k l e =
    ⊎_elim
    (λ (q : k ≡ n). let t : f n ≡ true = sym (ap f q) ∙ e in
    let s : count n (without f k) ≡ count n f = count_ext n (without f k) f (λ c m. rw (ne_eqb c k (λ w. omega arith)) (and-true (f c))) in
    rw (t, eq-eqb n k (sym q)) (omega arith))
    (λ (q : k < n). rw (ne_eqb n k (λ w. omega arith), and-true (f n)) (omega (arith, count_without n f k q e)))
    (top k n l)

pub sum_one : (n : ℕ) (g : ℕ → ℕ) → sum (n + 1) g ≡ sum n g + g n
unfolding sum
sum_one n g = ap (λ (k : ℕ). sum k g) (add-one n)

pub sum_ext : (n : ℕ) (f g : ℕ → ℕ) → ((c : ℕ) → c < n → f c ≡ g c) → sum n f ≡ sum n g
unfolding sum
sum_ext zero f g h = refl
sum_ext (suc n) f g h = ap₂ (λ (x y : ℕ). x + y) (sum_ext n f g (λ c l. h c (le_step l))) (h n (le_refl (suc n)))

pub sum_le : (n m : ℕ) (g : ℕ → ℕ) → ((c : ℕ) → c < n → g c ≤ m) → sum n g ≤ m * n
unfolding sum
sum_le zero m g h = zero-le
sum_le (suc n) m g h = omega (arith, sum_le n m g (λ c l. h c (le_step l)), h n (le_refl (suc n)), mul-suc m n)

-- a sum is nothing just where each part is
pub sum_zero : (n : ℕ) (g : ℕ → ℕ) → ((c : ℕ) → c < n → g c ≡ 0) → sum n g ≡ 0
unfolding sum
sum_zero zero g h = refl
sum_zero (suc n) g h = rw (h n (le_refl (suc n)), sum_zero n g (λ c l. h c (le_step l)))

pub sum_no : (n : ℕ) (g : ℕ → ℕ) → sum n g ≡ 0 → (c : ℕ) → c < n → g c ≡ 0
unfolding sum
sum_no zero g e c l = absurd (not-suc-le-zero l)
sum_no (suc n) g e c l = ⊎_elim (λ (q : c ≡ n). ap g q ∙ omega arith) (λ (q : c < n). sum_no n g (omega arith) c q) (top c n l)
