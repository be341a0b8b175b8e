-- A walk from a along r: R is what is reached, F what is followed, and c the next to follow.
use Rattle.std.specs.Prelude.{ℕ, ◌+◌, ◌≤◌, ◌<◌, Bool, true, false, not, ◌&&◌, ◌||◌, cond, ◌≡◌, refl, T, eqb, ltb}
use Rattle.std.proofs.Common.{zero-le, ⊎_elim, sym, ap, ◌∙◌, subst, le_refl, arith, ltb-true, lt-ltb, le-ltb, eqb-true, eq-eqb, ne_eqb}
use Rattle.std.proofs.Math.Bool.{and-false}
use Rattle.std.proofs.Math.Path.{fun_ext}
use Rattle.std.proofs.lemmas.Bool.{not-true, not-false}
use Rattle.rows.specs.Sets.{Set, Rel, any, least, count, none, either, less, when, before, single, without, closure}
use Rattle.rows.specs.Laws.Truth.{T_true, true_T, and_1, and_2, and_both, or_cases, or_1, or_2, not_both, is_false, same, not_or, same_lt, lt_or_le, eq_or_ne}
use Rattle.rows.proofs.Laws.Quantifiers.{any_no, least_is, least_hit, least_any, least_ext, count_ext, count_no, count_without}
use Rattle.rows.proofs.Laws.Closure.{holds, joins, least_closed}

-- where there is something to follow: a, and what is reached
abbrev pub stops : ℕ → Set → Set
stops a R = either (single a) R

pub record Walk (n : ℕ) (r : Rel) (a : ℕ) (R F : Set) (c : ℕ) : Type 0 where
  -- the next is the least stop that is not followed; a is followed, or is the next
  pub next : c ≡ least n (less (stops a R) F)
  pub gone : either F (single c) a ≡ true
  -- every step from what is followed is reached
  pub further : (x b : ℕ) → F x ≡ true → b < n → r x b ≡ true → R b ≡ true
  -- what is reached lies below n, at the end of a path from a
  pub low : (b : ℕ) → R b ≡ true → b < n
  pub path : (b : ℕ) → R b ≡ true → T (closure n r a b)

module _ {n : ℕ} {r : Rel} {a : ℕ} {R F : Set} where
  pub walk_none : a < n → R ≡ none → F ≡ none → Walk n r a R F a
  walk_none la e f =
      record {
        next = rw (e, f) (sym (least_hit n (less (stops a none) none) a la (rw (eq-eqb a a refl)) (λ i l. rw (ne_eqb i a (λ q. omega arith)))));
        gone = or_2 (F a) (eq-eqb a a refl);
        further = λ x b h l s. not_both h (ap (λ (t : Set). t x) f);
        low = λ b h. not_both h (ap (λ (t : Set). t b) e);
        path = λ b h. not_both h (ap (λ (t : Set). t b) e);
      }

  module _ {c : ℕ} (w : Walk n r a R F c) where
    -- the next to follow is a stop, and not followed
    hit : c < n → (stops a R c ≡ true) × (F c ≡ false)
    hit l =
        let h : less (stops a R) F c ≡ true = subst (λ (z : ℕ). less (stops a R) F z ≡ true) (sym w.next) ((least_is n (less (stops a R) F)).hit (subst (λ (z : ℕ). z < n) w.next l)) in
        (and_1 (stops a R c) (not (F c)) h, not-true (F c) (and_2 (stops a R c) (not (F c)) h))

    pub walk_more : {R' F' : Set} {c' : ℕ} → c < n → R' ≡ either R (before (r c) n) → F' ≡ either F (single c) → c' ≡ least n (less R' F') → Walk n r a R' F' c'
    walk_more {R'} {F'} {c'} l e f least' =
        let new : (b : ℕ) → R' b ≡ (R b || (r c b && ltb b n)) = λ b. ap (λ (t : Set). t b) e in
        let followed : F' a ≡ true = ap (λ (t : Set). t a) f ∙ w.gone in
        record {
          next = least' ∙ least_ext n (less R' F') (less (stops a R') F') (λ x lx. ⊎_elim
              (λ (q : x ≡ a). rw (q, followed, eq-eqb a a refl) (and-false (R' a)))
              (λ (ne : x ≡ a → ⊥). rw (ne_eqb x a ne))
              (eq_or_ne x a));
          gone = or_1 (eqb a c') followed;
          further = λ x b h lb s. new b ∙ ⊎_elim
              (λ (p : F x ≡ true). or_1 (r c b && ltb b n) (w.further x b p lb s))
              (λ (p : eqb x c ≡ true). or_2 (R b) (and_both (subst (λ (z : ℕ). r z b ≡ true) (eqb-true x c p) s) (lt-ltb b n lb)))
              (or_cases (F x) (eqb x c) (sym (ap (λ (t : Set). t x) f) ∙ h));
          low = λ b h. ⊎_elim (w.low b) (λ (p : r c b && ltb b n ≡ true). ltb-true b n (and_2 (r c b) (ltb b n) p)) (or_cases (R b) (r c b && ltb b n) (sym (new b) ∙ h));
          path = λ b h. ⊎_elim (w.path b) (λ (p : r c b && ltb b n ≡ true).
              let step : T (closure n r c b) = holds r n c b (true_T (and_1 (r c b) (ltb b n) p)) in
              ⊎_elim
              (λ (q : eqb c a ≡ true). subst (λ (z : ℕ). T (closure n r z b)) (eqb-true c a q) step)
              (λ (q : R c ≡ true). joins r n a c b (w.low c q) (w.path c q) step)
              (or_cases (eqb c a) (R c) (hit l).0)) (or_cases (R b) (r c b && ltb b n) (sym (new b) ∙ h));
        }

    -- one more is followed: fewer are left
    pub walk_less : {F' : Set} → c < n → F' ≡ either F (single c) → count n (λ x. not (F' x)) < count n (λ x. not (F x))
    walk_less {F'} l f =
        let fewer : count n (λ x. not (F' x)) ≡ count n (without (λ x. not (F x)) c) = count_ext n _ _ (λ x k. ap (λ (t : Set). not (t x)) f ∙ not_or (F x) (eqb x c)) in
        omega (arith, fewer, count_without n (λ x. not (F x)) c l (ap not (hit l).1))

    -- all are followed: nothing is left to follow
    pub walk_full : count n (λ x. not (F x)) ≡ 0 → n ≤ c
    walk_full e = ⊎_elim (λ (l : c < n). not_both (ap not (hit l).1) (count_no n (λ x. not (F x)) e c l)) (λ l. l) (lt_or_le c n)

    -- nothing is left to follow: what is reached is the closure's row
    pub walk_done : a < n → n ≤ c → R ≡ before (closure n r a) n
    walk_done la end = fun_ext λ b. same (R b) (closure n r a b && ltb b n)
        (λ h. and_both (T_true (closure n r a b) (w.path b h)) (lt-ltb b n (w.low b h)))
        (λ h. least_closed r n (λ x y. stops a R x ≡ true → R y ≡ true)
        (λ x y lx ly s k. w.further x y (done x lx k) ly (T_true (r x y) s))
        (λ x z y lx lz ly p q k. q (or_2 (eqb z a) (p k)))
        a b la (ltb-true b n (and_2 (closure n r a b) (ltb b n) h)) (true_T (and_1 (closure n r a b) (ltb b n) h)) (or_1 (R a) (eq-eqb a a refl)))
      where
        empty : any n (less (stops a R) F) ≡ false
        empty = is_false (any n (less (stops a R) F)) (λ h. let k : least n (less (stops a R) F) < n = least_any n (less (stops a R) F) h in omega (arith, w.next))

        done : (x : ℕ) → x < n → stops a R x ≡ true → F x ≡ true
        done x lx p = not-false (F x) (is_false (not (F x)) (λ q. not_both (and_both p q) (any_no n (less (stops a R) F) empty x lx)))

-- the rows but a's are as they were
abbrev pub Others : Rel → ℕ → Rel → Type 0
Others r a now = (x : ℕ) → (x ≡ a → ⊥) → now x ≡ r x

pub others_more : {r now new : Rel} {a : ℕ} (s : Set) → Others r a now → ((x : ℕ) → new x ≡ cond (eqb x a) s (now x)) → Others r a new
others_more {a = a} s h put x ne = put x ∙ rw (ne_eqb x a ne) (h x ne)

pub others_done : {r now : Rel} {a : ℕ} {s : Set} → Others r a now → now a ≡ s → (x : ℕ) → now x ≡ cond (eqb x a) s (r x)
others_done {a = a} h e x = ⊎_elim (λ (q : x ≡ a). rw (q, eq-eqb a a refl) e) (λ (ne : x ≡ a → ⊥). rw (ne_eqb x a ne) (h x ne)) (eq_or_ne x a)

-- ---- a walk from each action

-- the rows below a are those of r, below n, and the others have nothing
abbrev pub walked : ℕ → Rel → ℕ → Rel
walked n r a x = before (when (ltb x a) (r x)) n

pub walked_none : (n : ℕ) (r : Rel) {now : Rel} → ((x : ℕ) → now x ≡ none) → (x : ℕ) → now x ≡ walked n r 0 x
walked_none n r empty x = empty x ∙ rw (le-ltb x 0 zero-le)

-- the next row is still empty
pub walked_next : (n : ℕ) (r : Rel) {now : Rel} (a : ℕ) → ((x : ℕ) → now x ≡ walked n r a x) → now a ≡ none
walked_next n r a inv = inv a ∙ rw (le-ltb a a (le_refl a))

pub walked_more : (n : ℕ) (r : Rel) {now new : Rel} (a : ℕ) → ((x : ℕ) → now x ≡ walked n r a x) → ((x : ℕ) → new x ≡ cond (eqb x a) (before (r a) n) (now x)) → (x : ℕ) → new x ≡ walked n r (a + 1) x
walked_more n r a inv put x = put x ∙ ⊎_elim
    (λ (e : x ≡ a). let l : a < a + 1 = omega arith in rw (e, eq-eqb a a refl, lt-ltb a (a + 1) l))
    (λ (ne : x ≡ a → ⊥). rw (ne_eqb x a ne) (inv x ∙ ap (λ (t : Bool). before (when t (r x)) n) (same_lt x a x (a + 1) (λ l. omega arith) (λ l. omega arith))))
    (eq_or_ne x a)
