-- Laws of joins: what a set leads to through one relation and another, over any sets and relations.
use Rattle.std.specs.Prelude.{ℕ, ◌≤◌, ◌<◌, Bool, true, false, not, ◌&&◌, ◌||◌, ◌≡◌, eqb, ltb}
use Rattle.std.proofs.Math.Bool.{and_assoc, and_comm, and-false, and-true, and-or_distrib_left, and-or_distrib_right}
use Rattle.std.proofs.Common.{⊎_elim, sym, ap, ◌∙◌, lt_of_lt_of_le, arith, lt-ltb, le-ltb, ltb-true, ne_eqb}
use Rattle.std.proofs.Math.Path.{fun_ext}
use Rattle.rows.proofs.Laws.Quantifiers.{any_in, any_out, any_ext, any_or, any_and, any_at, any_none, any_swap}
use Rattle.rows.specs.Laws.Sets.{before_ext}
use Rattle.rows.specs.Laws.Truth.{test, same, and_1, and_2, and_both, not_both, and_left, eqb_sym, lt_or_le}
use Rattle.rows.specs.Sets.{Set, Rel, any, none, both, either, when, before, image, converse}

-- a bound on the members is a bound on the numbers
pub image_before : (m n : ℕ) (s : Set) (r : Rel) → ((c : ℕ) → m ≤ c → s c ≡ false) → image m (before s n) r ≡ image n s r
image_before m n s r out = fun_ext λ b. same (image m (before s n) r b) (image n s r b)
    (λ e. let (c, l, t) = any_out m (λ c. before s n c && r c b) e in
    let in_b = and_1 (before s n c) (r c b) t in
    any_in n (λ c. s c && r c b) c (ltb-true c n (and_2 (s c) (ltb c n) in_b)) (and_both (and_1 (s c) (ltb c n) in_b) (and_2 (before s n c) (r c b) t)))
    (λ e. let (c, l, t) = any_out n (λ c. s c && r c b) e in
    let in_s = and_1 (s c) (r c b) t in
    any_in m (λ c. before s n c && r c b) c (⊎_elim (λ q. q) (λ q. not_both in_s (out c q)) (lt_or_le c m)) (and_both (and_both in_s (lt-ltb c n l)) (and_2 (s c) (r c b) t)))

-- nothing leads to nothing
pub image_none : (n : ℕ) (s : Set) (r : Rel) → ((c b : ℕ) → r c b ≡ false) → image n s r ≡ none
image_none n s r h = fun_ext λ b. any_none n (λ c. s c && r c b) (λ c l. rw (h c b) (and-false (s c)))

-- from the members of either
pub image_or : (n : ℕ) (s t : Set) (r : Rel) → image n (either s t) r ≡ either (image n s r) (image n t r)
image_or n s t r = fun_ext λ b. any_ext n _ _ (λ c l. and-or_distrib_right (s c) (t c) (r c b)) ∙ any_or n (λ c. s c && r c b) (λ c. t c && r c b)

-- a member, or what q leads to from one
pub any_single : (n : ℕ) (s : Set) (b : ℕ) → any n (λ c. s c && eqb b c) ≡ before s n b
any_single n s b = ⊎_elim
    (λ (l : b < n). any_ext n _ _ (λ c m. and_comm (s c) (eqb b c) ∙ ap (λ (t : Bool). t && s c) (eqb_sym b c)) ∙ any_at n b s l ∙ rw (lt-ltb b n l) (sym (and-true (s b))))
    (λ (l : n ≤ b). any_none n (λ c. s c && eqb b c) (λ c m. rw (ne_eqb b c (λ e. omega arith)) (and-false (s c))) ∙ rw (le-ltb b n l) (sym (and-false (s b))))
    (lt_or_le b n)

pub image_reflexive : (n : ℕ) (s : Set) (q : Rel) → image n s (λ c b. eqb b c || q c b) ≡ either (before s n) (image n s q)
image_reflexive n s q = fun_ext λ b.
    any_ext n _ _ (λ c l. and-or_distrib_left (s c) (eqb b c) (q c b))
    ∙ any_or n (λ c. s c && eqb b c) (λ c. s c && q c b)
    ∙ ap (λ (t : Bool). t || image n s q b) (any_single n s b)

-- where the numbers below n lead, whichever more are asked
pub image_full : (n m : ℕ) (p : Bool) (r : Rel) → n ≤ m → image n (when p (λ c. ltb c m)) r ≡ when p (λ b. any n (converse r b))
image_full n m p r h = fun_ext λ b. (any_ext n _ _ λ c l. rw (lt-ltb c m (lt_of_lt_of_le l h), and-true p)) ∙ any_and n p (converse r b)

-- what is asked only if t has a member, and kept to t, may be asked always
pub asked : (n m : ℕ) (t : Set) (ask : Bool → Set) (u : Set) → n ≤ m → ((b : ℕ) → b < n → (t b && ask true b) ≡ u b)
    → before (both t (ask (not (not (any m t))))) n ≡ before u n
asked n m t ask u h same = before_ext n (both t (ask (not (not (any m t))))) u λ b l. ⊎_elim
    (λ (e : t b ≡ true). rw (any_in m t b (lt_of_lt_of_le l h) e) (same b l))
    (λ (e : t b ≡ false). rw e (rw e at (same b l)))
    (test (t b))

-- what stands beside a choice may stand inside
pub and_any : (n : ℕ) (p : Bool) (f : Set) → (p && any n f) ≡ any n (λ c. p && f c)
and_any n p f = sym (any_and n p f)

pub any_beside : (n : ℕ) (f : Set) (p : Bool) → (any n f && p) ≡ any n (λ c. f c && p)
any_beside n f p = and_comm (any n f) p ∙ and_any n p f ∙ any_ext n _ _ (λ c l. and_comm p (f c))

-- the choices in front, what is asked of them in one order
pub ruleset prenex = (and_any, any_beside, and_comm, and_assoc, and_left)

-- of two steps, the start may be chosen before the stop
pub start_first : (n : ℕ) (s : Set) (r : Rel) (t : Set) → any n (λ y. (any n λ x. s x && r x y) && t y) ≡ any n (λ x. any n (λ y. s x && (r x y && t y)))
start_first n s r t = (any_ext n _ _ λ y l. any_beside n (λ x. s x && r x y) (t y)) ∙ any_swap n n (λ y x. (s x && r x y) && t y) ∙ simp prenex
