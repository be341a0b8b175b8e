-- The closure is the transitive closure: it holds r, it joins what meets below n, and it lies in every relation that does both.
use Prim.Native.Nat.{ℕ, zero, suc, ◌+◌, ◌≤◌, ◌<◌, zero-le}
use Rattle.std.specs.Prelude.{Bool, true, false, not, ◌&&◌, ◌||◌, cond, ◌⊎◌, ◌≡◌, refl, T, ltb}
use Rattle.std.proofs.Math.Bool.{and-false, or-false, or-true}
use Rattle.std.proofs.Common.{true≢false, sym, ◌∙◌, subst, not-suc-le-zero, le_refl, add-one, arith, le-ltb, eq-eqb, ne_eqb}
use Rattle.std.proofs.Math.Logic.{inl, inr, ⊎_elim}
use Rattle.std.proofs.Math.Path.{fun_ext}
use Rattle.std.proofs.Math.Nat.{le_step}
use Rattle.rows.proofs.Laws.Quantifiers.{any_in, any_out, any_none, any_no}
use Rattle.rows.specs.Laws.Sets.{within_at}
use Rattle.rows.specs.Laws.Truth.{T_true, true_T, and_l, and_r, and_i, or_e, or_l, or_r, is_false, same_T, lt_or_le, eq_or_ne, top}
use Rattle.rows.specs.Sets.{Rel, any, none, image, via, closure, within}
use Rattle.rows.specs.Laws.Closure.{Round, turned, gains}

inside : (x m : ℕ) → (m ≤ x → ⊥) → x < m
inside x m f = ⊎_elim (λ l. l) (λ l. absurd (f l)) (lt_or_le x m)

module _ (r : Rel) where
  via_cases : (k a b : ℕ) → T (via r (suc k) a b) → T (via r k a b) ⊎ (T (via r k a k) × T (via r k k b))
  unfolding via
  via_cases k a b t = ⊎_elim inl (λ q. inr (and_l (via r k a k) (via r k k b) q, and_r (via r k a k) (via r k k b) q)) (or_e (via r k a b) (via r k a k && via r k k b) t)

  via_up : (k a b : ℕ) → T (via r k a b) → T (via r (suc k) a b)
  unfolding via
  via_up k a b t = or_l (via r k a b) (via r k a k && via r k k b) t

  via_by : (k a b : ℕ) → T (via r k a k) → T (via r k k b) → T (via r (suc k) a b)
  unfolding via
  via_by k a b p q = or_r (via r k a b) (via r k a k && via r k k b) (and_i (via r k a k) (via r k k b) p q)

  -- it holds r
  pub holds : (n a b : ℕ) → T (r a b) → T (closure n r a b)
  unfolding via
  holds zero a b t = t
  holds (suc n) a b t = via_up n a b (holds n a b t)

  -- two paths that meet below n join
  pub joins : (n a c b : ℕ) → c < n → T (closure n r a c) → T (closure n r c b) → T (closure n r a b)
  joins zero a c b l p q = absurd (not-suc-le-zero l)
  joins (suc k) a c b l p q =
      ⊎_elim
      (λ (e : c ≡ k).
      via_by k a b
      (⊎_elim (λ u. u) (λ u. u.0) (via_cases k a k (subst (λ (x : ℕ). T (via r (suc k) a x)) e p)))
      (⊎_elim (λ u. u) (λ u. u.1) (via_cases k k b (subst (λ (x : ℕ). T (via r (suc k) x b)) e q))))
      (λ (h : c < k).
      ⊎_elim
      (λ u. ⊎_elim (λ v. via_up k a b (joins k a c b h u v)) (λ v. via_by k a b (joins k a c k h u v.0) v.1) (via_cases k c b q))
      (λ u. ⊎_elim (λ v. via_by k a b u.0 (joins k k c b h u.1 v)) (λ v. via_by k a b u.0 v.1) (via_cases k c b q))
      (via_cases k a c p))
      (top c k l)

  -- it lies in every relation that holds r and joins so
  pub contained : (n : ℕ) (Q : ℕ → ℕ → Type 0) → ((a b : ℕ) → T (r a b) → Q a b) → ((a c b : ℕ) → c < n → Q a c → Q c b → Q a b) → (a b : ℕ) → T (closure n r a b) → Q a b
  unfolding via
  contained zero Q base join a b t = base a b t
  contained (suc n) Q base join a b t =
      let ih = contained n Q base (λ a c b l. join a c b (le_step l)) in
      ⊎_elim (ih a b) (λ p. join a n b (le_refl (suc n)) (ih a n p.0) (ih n b p.1)) (via_cases n a b t)

  -- the same for a relation that does both only between numbers below n
  pub least_closed : (n : ℕ) (Q : ℕ → ℕ → Type 0)
      → ((a b : ℕ) → a < n → b < n → T (r a b) → Q a b)
      → ((a c b : ℕ) → a < n → c < n → b < n → Q a c → Q c b → Q a b)
      → (a b : ℕ) → a < n → b < n → T (closure n r a b) → Q a b
  least_closed n Q base join a b la lb t =
      contained n (λ x y. x < n → y < n → Q x y) (λ x y e lx ly. base x y lx ly e) (λ x c y lc p q lx ly. join x c y lx lc ly (p lx lc) (q lc ly)) a b t la lb

  -- where r starts or ends only below m, so does it
  pub starts : (n m : ℕ) → ((a b : ℕ) → m ≤ a → r a b ≡ false) → (a b : ℕ) → m ≤ a → closure n r a b ≡ false
  starts n m h a b l = is_false (closure n r a b) (λ e. let q : a < m = contained n (λ x y. x < m) (λ x y t. inside x m (λ k. subst T (h x y k) t)) (λ x c y k p q. p) a b (true_T e) in omega arith)

  pub ends : (n m : ℕ) → ((a b : ℕ) → m ≤ b → r a b ≡ false) → (a b : ℕ) → m ≤ b → closure n r a b ≡ false
  ends n m h a b l = is_false (closure n r a b) (λ e. let q : b < m = contained n (λ x y. y < m) (λ x y t. inside y m (λ k. subst T (h x y k) t)) (λ x c y k p q. q) a b (true_T e) in omega arith)

-- relations that agree below n have closures that agree below n
pub closure_ext : (n : ℕ) (r q : Rel) → ((a b : ℕ) → a < n → b < n → r a b ≡ q a b) → (a b : ℕ) → a < n → b < n → closure n r a b ≡ closure n q a b
closure_ext n r q h a b la lb = same_T (closure n r a b) (closure n q a b) (half r q h) (half q r (λ x y lx ly. sym (h x y lx ly)))
  where
    half : (r q : Rel) → ((a b : ℕ) → a < n → b < n → r a b ≡ q a b) → T (closure n r a b) → T (closure n q a b)
    half r q h = least_closed r n (λ x y. T (closure n q x y)) (λ x y lx ly t. holds q n x y (subst T (h x y lx ly) t)) (λ x c y lx lc ly. joins q n x c y lc) a b la lb

-- the closure of what is between numbers below n is between them
pub closure_within : (n : ℕ) (r : Rel) → closure n (within n r) ≡ within n (closure n r)
closure_within n r = fun_ext λ a. fun_ext λ b. ⊎_elim
    (λ (la : a < n). ⊎_elim
    (λ (lb : b < n). closure_ext n (within n r) r (within_at n r) a b la lb ∙ sym (within_at n (closure n r) a b la lb))
    (λ (lb : n ≤ b). ends (within n r) n n (λ x y l. rw (le-ltb y n l) (and-false (ltb x n && r x y))) a b lb ∙ rw (le-ltb b n lb) (sym (and-false (ltb a n && closure n r a b))))
    (lt_or_le b n))
    (λ (la : n ≤ a). starts (within n r) n n (λ x y l. rw (le-ltb x n l)) a b la ∙ rw (le-ltb a n la))
    (lt_or_le a n)

-- ---- the closure in place, round after round

-- an empty row gains nothing
pub turned_none : (n : ℕ) (r : Rel) (k : ℕ) → r k ≡ none → (x : ℕ) → r x ≡ turned n r k x
turned_none n r k e x = ⊎_elim
    (λ (q : x ≡ k). rw (q, eq-eqb k k refl, e) (fun_ext λ b. sym (any_none n (λ c. false && r c b) (λ c l. refl))))
    (λ (ne : x ≡ k → ⊥). rw (ne_eqb x k ne))
    (eq_or_ne x k)

pub gains_none : (m n : ℕ) (r : Rel) (k : ℕ) → r k ≡ none → any m (gains n r k) ≡ false
gains_none m n r k e = rw e (any_none m _ (λ b l. rw (any_none n (λ c. false && r c b) (λ c h. refl))))

module _ (m n : ℕ) (r : Rel) where
  -- before the last of m rows, past which r has none
  pub round_none : ((a b : ℕ) → m ≤ a → r a b ≡ false) → Round n r r m false
  round_none out = record {
    grows = λ a b t. t;
    reaches = λ a c b l h t u. absurd (subst T (out a c l) t);
    inside = λ q base join a b t. base a b t;
    idle = λ e. refl;
  }

  -- row k has its turn
  module _ (now new : Rel) (k : ℕ) (more : Bool) (h : Round n r now (k + 1) more) (put : (x : ℕ) → new x ≡ turned n now k x) where
    keeps : (a b : ℕ) → T (now a b) → T (new a b)
    keeps a b t = ⊎_elim
        (λ (e : a ≡ k). rw (put a, e, eq-eqb k k refl) (or_l (now k b) (image n (now k) now b) (subst (λ (x : ℕ). T (now x b)) e t)))
        (λ (ne : a ≡ k → ⊥). rw (put a, ne_eqb a k ne) t)
        (eq_or_ne a k)

    turn_reaches : (a c b : ℕ) → k ≤ a → c < n → T (r a c) → T (r c b) → T (new a b)
    turn_reaches a c b l lc t u = ⊎_elim
        (λ (e : a ≡ k). rw (put a, e, eq-eqb k k refl) (or_r (now k b) (image n (now k) now b)
        (true_T (any_in n (λ x. now k x && now x b) c lc (T_true (now k c && now c b) (and_i (now k c) (now c b) (subst (λ (x : ℕ). T (now x c)) e (h.grows a c t)) (h.grows c b u)))))))
        (λ (ne : a ≡ k → ⊥). keeps a b (h.reaches a c b (omega arith) lc t u))
        (eq_or_ne a k)

    turn_inside : (q : Rel) → ((a b : ℕ) → T (r a b) → T (q a b)) → ((a c b : ℕ) → c < n → T (q a c) → T (q c b) → T (q a b)) → (a b : ℕ) → T (new a b) → T (q a b)
    turn_inside q base join a b t = ⊎_elim
        (λ (e : a ≡ k). rw e (⊎_elim (h.inside q base join k b)
        (λ u.
        let (c, lc, both_ways) = any_out n (λ x. now k x && now x b) (T_true (image n (now k) now b) u) in
        let w = true_T both_ways in
        join k c b lc (h.inside q base join k c (and_l (now k c) (now c b) w)) (h.inside q base join c b (and_r (now k c) (now c b) w)))
        (or_e (now k b) (image n (now k) now b) (rw (put a, e, eq-eqb k k refl) at t))))
        (λ (ne : a ≡ k → ⊥). h.inside q base join a b (rw (put a, ne_eqb a k ne) at t))
        (eq_or_ne a k)

    turned_idle : ((x b : ℕ) → m ≤ b → now x b ≡ false) → any m (gains n now k) ≡ false → new ≡ now
    turned_idle out none = fun_ext λ x. put x ∙ ⊎_elim
        (λ (e : x ≡ k). rw (e, eq-eqb k k refl) (fun_ext λ b. ⊎_elim
        (λ (l : b < m). nothing (now k b) (image n (now k) now b) (any_no m (gains n now k) none b l))
        (λ (l : m ≤ b). rw (out k b l) (any_none n (λ c. now k c && now c b) (λ c lc. rw (out c b l) (and-false (now k c)))))
        (lt_or_le b m)))
        (λ (ne : x ≡ k → ⊥). rw (ne_eqb x k ne))
        (eq_or_ne x k)
      where
        nothing : (p q : Bool) → (q && not p) ≡ false → (p || q) ≡ p
        nothing true q e = refl
        nothing false true e = absurd (true≢false e)
        nothing false false e = refl

    pub round_more : (added : Bool) → ((x b : ℕ) → m ≤ b → now x b ≡ false) → added ≡ any m (gains n now k) → Round n r new k (cond added true more)
    round_more added out e = record {
      grows = λ a b t. keeps a b (h.grows a b t);
      reaches = turn_reaches;
      inside = turn_inside;
      idle = idle added e;
    }
      where
        idle : (t : Bool) → t ≡ any m (gains n now k) → cond t true more ≡ false → new ≡ r
        idle true e f = absurd (true≢false f)
        idle false e f = turned_idle out (sym e) ∙ h.idle f

    -- the same, as a disjunction
    pub round_or : (added : Bool) → ((x b : ℕ) → m ≤ b → now x b ≡ false) → added ≡ any m (gains n now k) → Round n r new k (more || added)
    round_or true out e = rw (or-true more) (round_more true out e)
    round_or false out e = rw (or-false more) (round_more false out e)

-- the closure on its way: it has every path that stops below k, and lies in the closure
pub record Closing (n : ℕ) (r now : Rel) (k : ℕ) : Type 0 where
  pub reached : (a b : ℕ) → T (via r k a b) → T (now a b)
  pub inside : (a b : ℕ) → T (now a b) → T (closure n r a b)

module _ (n : ℕ) (r : Rel) where
  pub closing_none : Closing n r r 0
  unfolding via
  closing_none = record { reached = λ a b t. t; inside = holds r n }

  pub closing_done : (now : Rel) → Closing n r now n → now ≡ closure n r
  closing_done now h = fun_ext λ a. fun_ext λ b. same_T (now a b) (closure n r a b) (h.inside a b) (h.reached a b)

  module _ (now new : Rel) (k : ℕ) (more : Bool) (h : Closing n r now k) (round : Round n now new 0 more) where
    pub closing_more : k < n → Closing n r new (k + 1)
    closing_more l = record {
      reached = λ a b t. ⊎_elim
          (λ u. round.grows a b (h.reached a b u))
          (λ u. round.reaches a k b zero-le l (h.reached a k u.0) (h.reached k b u.1))
          (via_cases r k a b (subst (λ (j : ℕ). T (via r j a b)) (add-one k) t));
      inside = round.inside (closure n r) h.inside (λ a c b lc. joins r n a c b lc);
    }

    -- a round that adds nothing is the last
    pub closing_idle : more ≡ false → new ≡ closure n r
    closing_idle e =
        let same = round.idle e in
        same ∙ fun_ext λ a. fun_ext λ b. same_T (now a b) (closure n r a b) (h.inside a b)
        (contained r n (λ x y. T (now x y)) (λ x y t. h.reached x y (holds r k x y t)) (λ x c y l p q. subst (λ (s : Rel). T (s x y)) same (round.reaches x c y zero-le l p q)) a b)
