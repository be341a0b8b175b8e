-- The greedy order of a relation with no cycle lists every number once and keeps every edge.
use Prim.Native.Nat.{ℕ, zero, suc, ◌+◌, ◌≤◌, ◌<◌}
use Rattle.std.proofs.Math.Bool.{Bool, not}
use Rattle.std.specs.Prelude.{true, false, ◌&&◌, List, ◌∷◌, ◌≡◌, refl, ◌⊎◌, eqb, ltb, length, get_or}
use Rattle.std.proofs.Common.{sym, subst, ap, inl, inr, ⊎_elim, not-suc-le-zero, arith, eqb→eq, lt-ltb}
use Rattle.std.proofs.Math.Dec.{T, T_not, not_T}
use Rattle.rows.specs.Sets.{Set, Rel, any, least, count, without}
use Rattle.rows.specs.Laws.Truth.{and_l, and_r, and_i, dec, T_true, true_T, test, not_both, neqb_e, top}
use Rattle.rows.proofs.Laws.Quantifiers.{any_e, any_i, any_no, least_is, least_below, count_none, count_no, count_without}
use Rattle.model.specs.Judge.{next, greedy}

-- ---- in a set that is not empty, a strict order has a minimal member

record Minimal (n k : ℕ) (L : Rel) (S : Set) : Type 0 where
  it : ℕ
  below : it < n
  inside : T (S it)
  first : (z : ℕ) → z < k → T (S z) → T (L z it) → ⊥

module _ (n : ℕ) (L : Rel) (S : Set)
    (trans : (a b c : ℕ) → a < n → b < n → c < n → T (L a b) → T (L b c) → T (L a c))
    (irrefl : (a : ℕ) → a < n → T (L a a) → ⊥)
  where
    -- among the members below k; m is replaced by k where k is a member before it
    minimal : (s : ℕ) → s < n → T (S s) → (k : ℕ) → k ≤ n → Minimal n k L S
    minimal s l t zero h = record { it = s; below = l; inside = t; first = λ z lz. absurd (not-suc-le-zero lz) }
    minimal s l t (suc k) h = step (minimal s l t k (omega arith)) (dec (S k && L k (minimal s l t k (omega arith)).it))
      where
        step : (m : Minimal n k L S) → T (S k && L k m.it) ⊎ T (not (S k && L k m.it)) → Minimal n (suc k) L S
        step m (inl c) =
            record {
              it = k;
              below = h;
              inside = and_l (S k) (L k m.it) c;
              first = λ z lz tz q.
                  ⊎_elim
                  (λ (e : z ≡ k). irrefl k h (subst (λ (x : ℕ). T (L x k)) e q))
                  (λ (lt : z < k). m.first z lt tz (trans z k m.it (omega arith) h m.below q (and_r (S k) (L k m.it) c)))
                  (top z k lz);
            }
        step m (inr c) =
            record {
              it = m.it;
              below = m.below;
              inside = m.inside;
              first = λ z lz tz q.
                  ⊎_elim
                  (λ (e : z ≡ k).
                  T_not (S k && L k m.it) c
                  (and_i (S k) (L k m.it) (subst (λ (x : ℕ). T (S x)) e tz) (subst (λ (x : ℕ). T (L x m.it)) e q)))
                  (λ (lt : z < k). m.first z lt tz q)
                  (top z k lz);
            }

-- ---- how many are left

count_some : (n : ℕ) (f : Set) (k : ℕ) → count n f ≡ suc k → (i : ℕ) × (i < n) × T (f i)
count_some n f k e =
    ⊎_elim
    (λ (h : any n f ≡ true). any_e n f (true_T h))
    (λ (h : any n f ≡ false). absurd (omega (arith, count_none n f (any_no n f h))))
    (test (any n f))

count_all : (n m : ℕ) → n ≤ m → count n (λ a. ltb a m) ≡ n
unfolding count
count_all zero m h = refl
count_all (suc n) m h = rw (count_all n m (omega arith), lt-ltb n m h) (omega arith)

-- ---- the greedy order

-- what the list o is, that the greedy choice makes of the k numbers left
pub record Ordered (n : ℕ) (r : Rel) (k : ℕ) (left : Set) (o : List ℕ) : Type 0 where
  pub size : length o ≡ k
  pub fresh : (i : ℕ) → i < k → (get_or o i 0 < n) × T (left (get_or o i 0))
  pub apart : (i j : ℕ) → i < j → j < k → get_or o i 0 ≡ get_or o j 0 → ⊥
  pub keeps : (i j : ℕ) → i < j → j < k → T (r (get_or o j 0) (get_or o i 0)) → ⊥
  pub whole : (z : ℕ) → z < n → T (left z) → (i : ℕ) × (i < k) × (get_or o i 0 ≡ z)

module _ (n : ℕ) (r L : Rel)
    (inside : (a b : ℕ) → a < n → b < n → T (r a b) → T (L a b))
    (trans : (a b c : ℕ) → a < n → b < n → c < n → T (L a b) → T (L b c) → T (L a c))
    (irrefl : (a : ℕ) → a < n → T (L a a) → ⊥)
  where
    -- what the next number is
    record Chosen (left : Set) (a : ℕ) : Type 0 where
      below : a < n
      there : T (left a)
      first : (z : ℕ) → z < n → T (left z) → T (r z a) → ⊥

    chosen : (left : Set) (s : ℕ) → s < n → T (left s) → Chosen left (next n r left)
    unfolding next
    chosen left s l t =
        let m : Minimal n n L left = minimal n L left trans irrefl s l t n (omega arith) in
        let held : ℕ → Bool = λ a. any n λ z. left z && r z a in
        let free : Set = λ a. left a && not (held a) in
        let least_free : T (free m.it) =
        and_i (left m.it) (not (held m.it)) m.inside (not_T (held m.it) λ q.
        let (z, lz, tz) = any_e n (λ z. left z && r z m.it) q in
        m.first z lz (and_l (left z) (r z m.it) tz) (inside z m.it lz m.below (and_r (left z) (r z m.it) tz)))
        in
        let a : ℕ = least n free in
        let lt : a < n = least_below n free m.it m.below (T_true (free m.it) least_free) in
        let hit : T (free a) = true_T ((least_is n free).hit lt) in
        record {
          below = lt;
          there = and_l (left a) (not (held a)) hit;
          first = λ z lz tz q. T_not (held a) (and_r (left a) (not (held a)) hit) (any_i n (λ z. left z && r z a) z lz (and_i (left z) (r z a) tz q));
        }

    -- one more
    cons_ordered : (k a : ℕ) (left : Set) (o : List ℕ) → Chosen left a → Ordered n r k (without left a) o → Ordered n r (suc k) left (a ∷ o)
    cons_ordered k a left o c h =
        record {
          size = ap suc h.size;
          fresh = fresh;
          apart = apart;
          keeps = keeps;
          whole = λ z lz tz.
              ⊎_elim
              (λ e. (0, omega arith, sym (eqb→eq z a e)))
              (λ e. let (i, l, p) = h.whole z lz (and_i (left z) (not (eqb z a)) tz e) in (suc i, omega arith, p))
              (dec (eqb z a));
        }
      where
        rest : (i : ℕ) → i < k → (get_or o i 0 < n) × T (left (get_or o i 0)) × (get_or o i 0 ≡ a → ⊥)
        rest i l =
            let z : ℕ = get_or o i 0 in
            let (b, t) = h.fresh i l in
            (b, and_l (left z) (not (eqb z a)) t, neqb_e z a (and_r (left z) (not (eqb z a)) t))

        fresh : (i : ℕ) → i < suc k → (get_or (a ∷ o) i 0 < n) × T (left (get_or (a ∷ o) i 0))
        fresh zero l = (c.below, c.there)
        fresh (suc i) l = let q = rest i (omega arith) in (q.0, q.1)

        apart : (i j : ℕ) → i < j → j < suc k → get_or (a ∷ o) i 0 ≡ get_or (a ∷ o) j 0 → ⊥
        apart zero zero l m e = omega arith
        apart zero (suc j) l m e = (rest j (omega arith)).2 (sym e)
        apart (suc i) zero l m e = omega arith
        apart (suc i) (suc j) l m e = h.apart i j (omega arith) (omega arith) e

        keeps : (i j : ℕ) → i < j → j < suc k → T (r (get_or (a ∷ o) j 0) (get_or (a ∷ o) i 0)) → ⊥
        keeps zero zero l m e = omega arith
        keeps zero (suc j) l m e = let q = rest j (omega arith) in c.first (get_or o j 0) q.0 q.1 e
        keeps (suc i) zero l m e = omega arith
        keeps (suc i) (suc j) l m e = h.keeps i j (omega arith) (omega arith) e

    ordered : (k : ℕ) (left : Set) → count n left ≡ k → Ordered n r k left (greedy n r k left)
    unfolding greedy
    ordered zero left e =
        record {
          size = refl;
          fresh = λ i l. absurd (omega arith);
          apart = λ i j l m. absurd (omega arith);
          keeps = λ i j l m. absurd (omega arith);
          whole = λ z lz tz. not_both (T_true (left z) tz) (count_no n left e z lz);
        }
    ordered (suc k) left e =
        let (s, l, t) = count_some n left k e in
        let a : ℕ = next n r left in
        let c : Chosen left a = chosen left s l t in
        let less : count n left ≡ count n (without left a) + 1 = count_without n left a c.below (T_true (left a) c.there) in
        let rest : Ordered n r k (without left a) (greedy n r k (without left a)) = ordered k (without left a) (omega arith) in
        rw (lt-ltb a n c.below) (cons_ordered k a left (greedy n r k (without left a)) c rest)

    pub all_ordered : Ordered n r n (λ a. ltb a n) (greedy n r n (λ a. ltb a n))
    all_ordered = ordered n (λ a. ltb a n) (count_all n n (omega arith))
