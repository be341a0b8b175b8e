-- Demand 3, for either edition: where the order is due, it is given, and it is a serial order; elsewhere none is.
use Rattle.std.specs.Prelude.{ℕ, ◌<◌, true, false, not, List, [], ◌∷◌, ◌≡◌, T, ltb}
use Rattle.std.proofs.Common.{sym, subst, ⊎_elim, arith, lt→ltb}
use Rattle.rows.specs.Laws.Truth.{order3, and_l, and_r, or_l, or_r, T_true, T_false}
use Rattle.model.specs.declared.OrderPart.TheVariants.{Given, Refused}
use Rattle.model.specs.Candidates.{Candidate, well_formed}
use Rattle.model.specs.Model.{Book, Sc, Rf, Hb, read, write, lock, unlock, sc_action, same_place, same_thread}
use Rattle.model.specs.Judge.{book, due, precedes, greedy, order_of, judged_of}
use Rattle.model.specs.Drawings.{I, K, ring, revised, computing}
use Rattle.order.specs.Serial.{Due, nth, Serial}
use Rattle.order.specs.Laws.Due.{due_is}
use Rattle.order.specs.Laws.Greedy.{Ordered}
use Rattle.order.specs.Laws.Places.{at_mutex_lem}
use Rattle.order.specs.Laws.Before.{Ready, sb_in_hb, asw_in_hb, sc_ends, sc_total, precedes_irrefl, sorted}
use Rattle.order.specs.Laws.Reads.{Feeds, rf_place, rf_write, rf_before, last, Owner, owner, at_its_mutex}
use Rattle.order.specs.Laws.Editions.{ready, feeds}

-- the greedy order of a candidate's actions under hb ∪ sc
abbrev pub chosen : Candidate → List ℕ
chosen X = greedy X.n (precedes X.n (book X)) X.n (λ a. ltb a X.n)

-- ---- the order is given exactly where it is due

pub order_given : (X : Candidate) → T (due X.edition X.n (book X)) → ((judged_of X).order ≡ Given) × (order_of X ≡ chosen X)
unfolding judged_of order_of
order_given X d = let e : due X.edition X.n (book X) ≡ true = T_true (due X.edition X.n (book X)) d in (rw e, rw e)

pub order_withheld : (X : Candidate) → T (not (due X.edition X.n (book X))) → ((judged_of X).order ≡ Refused) × (order_of X ≡ [])
unfolding judged_of order_of
order_withheld X d = let e : due X.edition X.n (book X) ≡ false = T_false (due X.edition X.n (book X)) d in (rw e, rw e)

-- ---- and it is a serial order

module _ (X : Candidate) (ready : Ready X.n (book X)) (fed : Feeds X.n (book X)) where
  abbrev n : ℕ
  n = X.n

  abbrev ρ : Book
  ρ = book X

  o : List ℕ
  o = chosen X

  in_order_lem : Ordered n (precedes n ρ) n (λ a. ltb a n) o
  unfolding o
  in_order_lem = sorted n ρ ready

  bound : (i : ℕ) → i < n → nth o i < n
  bound i l = (in_order_lem.fresh i l).0

  place_of : (a : ℕ) → a < n → (i : ℕ) × (i < n) × (nth o i ≡ a)
  place_of a l = in_order_lem.whole a l (lt→ltb a n l)

  -- an edge of hb or sc goes forward
  forward : (i j : ℕ) → i < n → j < n → T (precedes n ρ (nth o i) (nth o j)) → i < j
  forward i j li lj t =
      ⊎_elim (λ l. l)
      (⊎_elim
      (λ (e : i ≡ j).
      let b : ℕ = nth o j in
      absurd (precedes_irrefl n ρ ready b (bound j lj) (subst (λ (x : ℕ). T (precedes n ρ (nth o x) b)) e t)))
      (λ l. absurd (in_order_lem.keeps j i l li t)))
      (order3 i j)

  hb_forward : (i j : ℕ) → i < n → j < n → T (Hb n ρ (nth o i) (nth o j)) → i < j
  hb_forward i j li lj t = forward i j li lj (or_l (Hb n ρ (nth o i) (nth o j)) (Sc n ρ (nth o i) (nth o j)) t)

  sc_forward : (i j : ℕ) → i < n → j < n → T (Sc n ρ (nth o i) (nth o j)) → i < j
  sc_forward i j li lj t = forward i j li lj (or_r (Hb n ρ (nth o i) (nth o j)) (Sc n ρ (nth o i) (nth o j)) t)

  reads : (j : ℕ) → j < n → T (read n ρ (nth o j))
      → (i : ℕ) × (i < j) × T (Rf n ρ (nth o i) (nth o j)) × T (write n ρ (nth o i)) × T (same_place n ρ (nth o i) (nth o j))
      × ((k : ℕ) → i < k → k < j → T (write n ρ (nth o k)) → T (same_place n ρ (nth o k) (nth o j)) → ⊥)
  reads j lj rd =
      let b : ℕ = nth o j in
      let (a, la, t) = ready.source b (bound j lj) rd in
      let (i, li, e) = place_of a la in
      let rf : T (Rf n ρ (nth o i) b) = subst (λ (x : ℕ). T (Rf n ρ x b)) (sym e) t in
      let l : i < j = forward i j li lj (rf_before n ρ ready fed (nth o i) b (bound i li) (bound j lj) rd rf) in (
        i,
        l,
        rf,
        rf_write n ρ ready (nth o i) b (bound i li) (bound j lj) rd rf,
        rf_place n ρ ready (nth o i) b (bound i li) (bound j lj) rf,
        λ k lk₁ lk₂ w s.
            last n ρ ready fed (nth o i) b (nth o k) (bound i li) (bound j lj) (bound k (omega arith)) rd rf w s
            (λ q. in_order_lem.apart i k lk₁ (omega arith) (sym q))
            (λ q. in_order_lem.apart k j lk₂ lj q)
            (in_order_lem.keeps i k lk₁ (omega arith))
            (in_order_lem.keeps k j lk₂ lj),
      )

  unlocks : (j : ℕ) → j < n → T (unlock n ρ (nth o j))
      → (i : ℕ) × (i < j) × T (lock n ρ (nth o i)) × T (same_thread n ρ (nth o i) (nth o j)) × T (same_place n ρ (nth o i) (nth o j))
      × ((k : ℕ) → i < k → k < j → T (same_place n ρ (nth o k) (nth o j)) → ⊥)
  unlocks j lj u =
      let b : ℕ = nth o j in
      let w : Owner n ρ ready b = owner n ρ ready b (bound j lj) u in
      let (i, li, e) = place_of w.it w.below in
      let a : ℕ = nth o i in
      let edge : T (Sc n ρ a b) = subst (λ (x : ℕ). T (Sc n ρ x b)) (sym e) w.edge in
      let ends = sc_ends n ρ ready a b (bound i li) (bound j lj) edge in
      let sa : T (sc_action n ρ a) = and_l (sc_action n ρ a) (sc_action n ρ b) ends in
      let sb : T (sc_action n ρ b) = and_r (sc_action n ρ a) (sc_action n ρ b) ends in (
        i,
        sc_forward i j li lj edge,
        subst (λ (x : ℕ). T (lock n ρ x)) (sym e) w.locks,
        subst (λ (x : ℕ). T (same_thread n ρ x b)) (sym e) w.own,
        subst (λ (x : ℕ). T (same_place n ρ x b)) (sym e) w.same,
        λ k lk₁ lk₂ s.
            let c : ℕ = nth o k in
            let lk : k < n = omega arith in
            let mc = ready.base.places.at_mutex_too c b s (at_its_mutex n ρ ready b (bound j lj) u) in
            let sc : T (sc_action n ρ c) = ready.base.words.mutex_sc_lem c (at_mutex_lem n ρ ready.base c (bound k lk) mc) in
            let h₁ : T (Sc n ρ a c) =
            ⊎_elim (λ h. h) (λ h. let q : k < i = sc_forward k i lk li h in absurd (omega arith))
            (sc_total n ρ ready a c (bound i li) (bound k lk) (in_order_lem.apart i k lk₁ lk) sa sc) in
            let h₂ : T (Sc n ρ c b) =
            ⊎_elim (λ h. h) (λ h. let q : j < k = sc_forward j k lj lk h in absurd (omega arith))
            (sc_total n ρ ready c b (bound k lk) (bound j lj) (in_order_lem.apart k j lk₂ lj) sc sb) in
            w.alone c (bound k lk) s (subst (λ (x : ℕ). T (Sc n ρ x c)) e h₁) h₂,
      )

  chosen_serial : Serial X (chosen X)
  unfolding o
  chosen_serial =
      record {
        size = in_order_lem.size;
        bound = bound;
        whole = place_of;
        apart = in_order_lem.apart;
        keeps_sb = λ i j li lj t. hb_forward i j li lj (sb_in_hb n ρ ready (nth o i) (nth o j) (bound i li) (bound j lj) t);
        keeps_asw = λ i j li lj t. hb_forward i j li lj (asw_in_hb n ρ ready (nth o i) (nth o j) (bound i li) (bound j lj) t);
        keeps_sc = sc_forward;
        reads = reads;
        unlocks = unlocks;
      }

pub due_serial : (X : Candidate) → T (well_formed X) → T (due X.edition X.n (book X)) → Serial X (order_of X)
due_serial X W d =
    let D : Due X.edition X.n (book X) = due_is X.edition X.n (book X) d in
    subst (λ (l : List ℕ). Serial X l) (sym (order_given X d).1) (chosen_serial X (ready X W D) (feeds X W D))

-- ---- at drawings of both editions

pub serial_I : Serial I (0 ∷ 1 ∷ 2 ∷ 3 ∷ 4 ∷ 5 ∷ 6 ∷ [])
unfolding computing
serial_I = due_serial I tt tt

pub serial_K : Serial K (1 ∷ 0 ∷ [])
unfolding computing
serial_K = due_serial K tt tt

pub serial_revised_I : Serial (revised I) (0 ∷ 1 ∷ 2 ∷ 3 ∷ 4 ∷ 5 ∷ 6 ∷ [])
unfolding computing
serial_revised_I = due_serial (revised I) tt tt

pub serial_ring : Serial (revised ring) (0 ∷ 1 ∷ 2 ∷ 3 ∷ 4 ∷ 5 ∷ [])
unfolding computing
serial_ring = due_serial (revised ring) tt tt
