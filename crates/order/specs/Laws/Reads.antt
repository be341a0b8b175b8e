-- Where the order is due: accesses of one place, one a write, follow one another by hb, or by sc where both are seq_cst; a read's source comes before it with no write
-- of the place between; an unlock has its own thread's lock right before it. For either edition.
use Rattle.std.specs.Prelude.{ℕ, ◌<◌, true, false, ◌&&◌, ◌||◌, cond, ◌≡◌, ◌⊎◌, eqb}
use Rattle.std.proofs.Math.Bool.{Bool, not}
use Rattle.std.proofs.Common.{sym, arith}
use Rattle.std.proofs.Math.Logic.{inl, inr, ⊎_elim}
use Rattle.std.proofs.Math.Dec.{T, T_not, not_T, eqb_refl}
use Rattle.rows.specs.Sets.{Set}
use Rattle.rows.specs.Laws.Truth.{order3, and_l, and_r, and_i, or_e, or_l, or_r, dec, neqb_i, neqb_e}
use Rattle.rows.proofs.Laws.Quantifiers.{any_e, any_i}
use Rattle.model.specs.Model.{Book, Sb, Sc, Rf, Mo, Hb, Vse, DataRaces, UnsequencedRaces, some, ◌⨾◌, immediate, mutex_sc, read, write, plain, atomic, lock, unlock, seq_cst, at_mutex, at_plain, at_atomic, same_place, same_thread, same_value, vse, data_races, unsequenced_races, rules, rule7, rule12, rule17, rule23, rule29, rule30, rule32, rule33, rule34}
use Rattle.model.specs.Judge.{precedes}
use Rattle.model.specs.Laws.Holds.{Holds, mo_either}
use Rattle.model.specs.Laws.Filled.{Filled}
use Rattle.model.specs.Laws.Placing.{Placing}
use Rattle.order.specs.Laws.Words.{Wording}
use Rattle.order.specs.Laws.Places.{Base, off, place_cases, at_mutex_lem, at_plain_lem, at_atomic_lem}
use Rattle.order.specs.Laws.Before.{Ready, sb_in_hb, sc_one_way, sc_total, hb_sc}

-- what edition 2 says of a read's source and of mo; where its order is due, edition 1 comes to the same
pub record Feeds (n : ℕ) (ρ : Book) : Type 0 where
  pub seen : Holds n ρ 29
  pub not_later : Holds n ρ 30
  pub newest : Holds n ρ 32
  pub write_write : Holds n ρ 33
  pub write_read : Holds n ρ 34

module _ (n : ℕ) (ρ : Book) (R : Ready n ρ) where
  abbrev base : Base n ρ
  base = R.base

  abbrev filled : Filled n ρ
  filled = R.base.filled

  abbrev words : Wording n ρ
  words = R.base.words

  abbrev places : Placing n ρ
  places = R.base.places

  -- ---- accesses of one place, one a write

  abbrev access : Set
  access a = atomic n ρ a || plain n ρ a

  -- two different accesses of one place, one a write
  record Clash (a b : ℕ) : Type 0 where
    la : a < n
    lb : b < n
    apart : a ≡ b → ⊥
    same : T (same_place n ρ a b)
    access_a : T (access a)
    access_b : T (access b)
    one_writes : T (write n ρ a || write n ρ b)

  turned : (a b : ℕ) → Clash a b → Clash b a
  turned a b c =
      record {
        la = c.lb;
        lb = c.la;
        apart = λ e. c.apart (sym e);
        same = places.place_sym a b c.same;
        access_a = c.access_b;
        access_b = c.access_a;
        one_writes = ⊎_elim (or_r (write n ρ b) (write n ρ a)) (or_l (write n ρ b) (write n ρ a)) (or_e (write n ρ a) (write n ρ b) c.one_writes);
      }

  -- hb one way or the other
  abbrev Either : ℕ → ℕ → Type 0
  Either a b = T (Hb n ρ a b) ⊎ T (Hb n ρ b a)

  -- of one thread, a plain and an atomic one: sequenced by the condition
  mixed : (a b : ℕ) → Clash a b → T (same_thread n ρ a b) → T (plain n ρ a) → T (atomic n ρ b) → Either a b
  mixed a b c st pa ab =
      ⊎_elim (λ h. inl (sb_in_hb n ρ R a b c.la c.lb h)) (λ h. inr (sb_in_hb n ρ R b a c.lb c.la h))
      (or_e (Sb n ρ a b) (Sb n ρ b a) (R.sequenced a b c.la c.lb pa ab st c.same c.one_writes))

  -- of one thread, both plain: no unsequenced race
  both_plain : (a b : ℕ) → Clash a b → a < b → T (same_thread n ρ a b) → T (plain n ρ a) → T (plain n ρ b) → Either a b
  unfolding unsequenced_races
  both_plain a b c l st pa pb =
      let ne : T (not (eqb b a)) = neqb_i b a (λ e. omega arith) in
      let s : T (same_place n ρ a b) = c.same in
      let w : T (write n ρ a || write n ρ b) = c.one_writes in
      ⊎_elim (λ h. inl (sb_in_hb n ρ R a b c.la c.lb h))
      (λ (q₁ : T (not (Sb n ρ a b))). ⊎_elim (λ h. inr (sb_in_hb n ρ R b a c.lb c.la h))
      (λ (q₂ : T (not (Sb n ρ b a))). absurd (T_not (UnsequencedRaces n ρ a b) (R.no_unsequenced_race a b l c.lb) (rw (filled.unsequenced_is a b c.la c.lb) (search (and_i) depth 9))))
      (dec (Sb n ρ b a)))
      (dec (Sb n ρ a b))

  one_thread_lem : (a b : ℕ) → Clash a b → a < b → T (same_thread n ρ a b) → T (not (atomic n ρ a && atomic n ρ b)) → Either a b
  one_thread_lem a b c l st na =
      ⊎_elim
      (λ aa. ⊎_elim
      (λ ab. absurd (T_not (atomic n ρ a && atomic n ρ b) na (and_i (atomic n ρ a) (atomic n ρ b) aa ab)))
      (λ pb. ⊎_elim inr inl (mixed b a (turned a b c) (words.thread_sym a b st) pb aa))
      (or_e (atomic n ρ b) (plain n ρ b) c.access_b))
      (λ pa. ⊎_elim (mixed a b c st pa) (both_plain a b c l st pa) (or_e (atomic n ρ b) (plain n ρ b) c.access_b))
      (or_e (atomic n ρ a) (plain n ρ a) c.access_a)

  -- of different threads: no data race
  two_threads : (a b : ℕ) → Clash a b → a < b → T (not (same_thread n ρ a b)) → T (not (atomic n ρ a && atomic n ρ b)) → Either a b
  unfolding data_races
  two_threads a b c l dt na =
      let s : T (same_place n ρ a b) = c.same in
      let w : T (write n ρ a || write n ρ b) = c.one_writes in
      ⊎_elim inl
      (λ (p₁ : T (not (Hb n ρ a b))). ⊎_elim inr
      (λ (p₂ : T (not (Hb n ρ b a))). absurd (T_not (DataRaces n ρ a b) (R.no_data_race a b l c.lb) (rw (filled.data_is a b c.la c.lb) (search (and_i) depth 9))))
      (dec (Hb n ρ b a)))
      (dec (Hb n ρ a b))

  race_up : (a b : ℕ) → Clash a b → a < b → T (not (atomic n ρ a && atomic n ρ b)) → Either a b
  race_up a b c l na = ⊎_elim (λ st. one_thread_lem a b c l st na) (λ dt. two_threads a b c l dt na) (dec (same_thread n ρ a b))

  -- so two that are not both atomic are ordered by hb
  race_free : (a b : ℕ) → Clash a b → T (not (atomic n ρ a && atomic n ρ b)) → Either a b
  race_free a b c na =
      ⊎_elim
      (λ l. race_up a b c l na)
      (⊎_elim (λ e. absurd (c.apart e))
      (λ l. ⊎_elim inr inl
      (race_up b a (turned a b c) l
      (not_T (atomic n ρ b && atomic n ρ a) (λ t. T_not (atomic n ρ a && atomic n ρ b) na (and_i (atomic n ρ a) (atomic n ρ b) (and_r (atomic n ρ b) (atomic n ρ a) t) (and_l (atomic n ρ b) (atomic n ρ a) t)))))))
      (order3 a b)

  -- sc between seq_cst actions, or hb
  abbrev Along : ℕ → ℕ → Type 0
  Along a b = (T (seq_cst n ρ a) × T (seq_cst n ρ b) × T (Sc n ρ a b)) ⊎ T (Hb n ρ a b)

  -- in an order that keeps hb and sc, any two such accesses follow one another so: two atomic ones are seq_cst, and sc is total
  along : (a b : ℕ) → Clash a b → (T (precedes n ρ b a) → ⊥) → Along a b
  along a b c back =
      ⊎_elim
      (λ t.
      let qa : T (seq_cst n ρ a) = R.actions_seq_cst a c.la (and_l (atomic n ρ a) (atomic n ρ b) t) in
      let qb : T (seq_cst n ρ b) = R.actions_seq_cst b c.lb (and_r (atomic n ρ a) (atomic n ρ b) t) in
      ⊎_elim (λ h. inl (qa, qb, h)) (λ h. absurd (back (or_r (Hb n ρ b a) (Sc n ρ b a) h)))
      (sc_total n ρ R a b c.la c.lb c.apart (words.seq_cst_sc a qa) (words.seq_cst_sc b qb)))
      (λ t. ⊎_elim inr (λ h. absurd (back (or_l (Hb n ρ b a) (Sc n ρ b a) h))) (race_free a b c t))
      (dec (atomic n ρ a && atomic n ρ b))

  -- a plain access is not seq_cst
  along_plain : (a b : ℕ) → a < n → T (at_plain n ρ a) → Along a b → T (Hb n ρ a b)
  along_plain a b l p h =
      ⊎_elim (λ (q, r, e). absurd (words.atomic_plain a (words.seq_cst_atomic a (base.no_fence a l) q) (at_plain_lem n ρ base a l p))) (λ e. e) h

  -- ---- rule 17: what an rf edge joins

  abbrev joined : ℕ → ℕ → Bool
  joined a b = cond (at_mutex n ρ a) (unlock n ρ a && lock n ρ b) (same_value n ρ a b && write n ρ a && read n ρ b)

  rf_ends : (a b : ℕ) → a < n → b < n → T (Rf n ρ a b) → T (same_place n ρ a b && not (eqb b a) && joined a b)
  unfolding rules rule17
  rf_ends a b la lb t =
      let s : Bool = same_place n ρ a b && not (eqb b a) && joined a b in
      ⊎_elim (λ q. q) (λ q. absurd (off n ρ base 17 (omega arith) tt a b la lb (and_i (Rf n ρ a b) (not s) t q))) (dec s)

  pub rf_place : (a b : ℕ) → a < n → b < n → T (Rf n ρ a b) → T (same_place n ρ a b)
  rf_place a b la lb t = let q = rf_ends a b la lb t in search (and_l)

  rf_apart : (a b : ℕ) → a < n → b < n → T (Rf n ρ a b) → a ≡ b → ⊥
  rf_apart a b la lb t e = neqb_e b a (let q = rf_ends a b la lb t in search (and_l, and_r)) (sym e)

  -- mutex: unlock to lock; elsewhere write to read
  pub rf_kinds : (a b : ℕ) → a < n → b < n → T (Rf n ρ a b) → (T (unlock n ρ a) × T (lock n ρ b)) ⊎ (T (write n ρ a) × T (read n ρ b))
  rf_kinds a b la lb t = go (at_mutex n ρ a) (let q = rf_ends a b la lb t in search (and_r))
    where
      go : (m : Bool) → T (cond m (unlock n ρ a && lock n ρ b) (same_value n ρ a b && write n ρ a && read n ρ b))
          → (T (unlock n ρ a) × T (lock n ρ b)) ⊎ (T (write n ρ a) × T (read n ρ b))
      go true q = inl (and_l (unlock n ρ a) (lock n ρ b) q, and_r (unlock n ρ a) (lock n ρ b) q)
      go false q = inr (search (and_l, and_r), search (and_r))

  pub rf_write : (a b : ℕ) → a < n → b < n → T (read n ρ b) → T (Rf n ρ a b) → T (write n ρ a)
  rf_write a b la lb rd t =
      ⊎_elim (λ (u, l). absurd (words.read_mutex b rd (or_l (lock n ρ b) (unlock n ρ b) l))) (λ (w, r). w) (rf_kinds a b la lb t)

  -- a read's place is non-atomic or atomic
  read_place : (b : ℕ) → b < n → T (read n ρ b) → T (at_plain n ρ b) ⊎ T (at_atomic n ρ b)
  read_place b l rd = ⊎_elim (λ m. absurd (words.read_mutex b rd (at_mutex_lem n ρ base b l m))) (λ m. m) (place_cases n ρ base b l)

  -- what is at a read's place is an access
  accesses : (a b : ℕ) → a < n → b < n → T (read n ρ b) → T (same_place n ρ a b) → T (access a)
  accesses a b la lb rd s =
      ⊎_elim
      (λ m. or_r (atomic n ρ a) (plain n ρ a) (at_plain_lem n ρ base a la (places.at_plain_too a b s m)))
      (λ m. at_atomic_lem n ρ base a la (places.at_atomic_too a b s m))
      (read_place b lb rd)

  -- a read and a write of its place; two writes of its place
  clashes : (a b c : ℕ) → a < n → b < n → c < n → T (read n ρ c) → T (same_place n ρ a c) → T (same_place n ρ b c) → T (write n ρ a) → (a ≡ b → ⊥) → Clash a b
  clashes a b c la lb lc rd sa sb w ne =
      record {
        la = la;
        lb = lb;
        apart = ne;
        same = places.place_trans a c b sa (places.place_sym b c sb);
        access_a = accesses a c la lc rd sa;
        access_b = accesses b c lb lc rd sb;
        one_writes = or_l (write n ρ a) (write n ρ b) w;
      }

  -- an action of a place is of its own place
  same_self : (a b : ℕ) → T (same_place n ρ a b) → T (same_place n ρ b b)
  same_self a b s = places.place_trans b a b (places.place_sym a b s) s

  -- ---- rules 12 and 14: mo is total on the writes of an atomic place, and between seq_cst ones it is part of sc

  mo_total : (a b : ℕ) → a < n → b < n → (a ≡ b → ⊥) → T (at_atomic n ρ b) → T (same_place n ρ a b) → T (write n ρ a) → T (write n ρ b) → T (Mo n ρ a b) ⊎ T (Mo n ρ b a)
  mo_total a b la lb ne p s wa wb =
      let pa : T (at_atomic n ρ a) = places.at_atomic_too a b s p in
      mo_either n ρ (off n ρ base 14 (omega arith) tt) places a b la lb ne (search (and_i))

  pub mo_sc : (a b : ℕ) → a < n → b < n → T (seq_cst n ρ a) → T (seq_cst n ρ b) → T (Mo n ρ a b) → T (Sc n ρ a b)
  unfolding rules rule12
  mo_sc a b la lb qa qb m =
      let sa = words.seq_cst_sc a qa in
      let sb = words.seq_cst_sc b qb in
      ⊎_elim (λ q. q) (λ q. absurd (off n ρ base 12 (omega arith) tt a b la lb (search (and_i)))) (dec (Sc n ρ a b))

  -- ---- rule 23: a seq_cst read of a seq_cst write

  module _ (ok : Holds n ρ 23) where
    abbrev passed_over : ℕ → ℕ → Set
    passed_over a b c = write n ρ c && same_place n ρ c b && Sc n ρ a c && Sc n ρ c b

    reads_sc : (a b : ℕ) → a < n → b < n → T (seq_cst n ρ a) → T (seq_cst n ρ b) → T (Rf n ρ a b) → T (Sc n ρ a b && not (some n ρ (passed_over a b)))
    unfolding rules rule23
    reads_sc a b la lb qa qb t =
        let keeps : Bool = Sc n ρ a b && not (some n ρ (passed_over a b)) in
        ⊎_elim (λ q. q) (λ q. absurd (ok a b la lb (search (and_i)))) (dec keeps)

    pub source_sc : (a b : ℕ) → a < n → b < n → T (seq_cst n ρ a) → T (seq_cst n ρ b) → T (Rf n ρ a b) → T (Sc n ρ a b)
    source_sc a b la lb qa qb t = and_l (Sc n ρ a b) (not (some n ρ (passed_over a b))) (reads_sc a b la lb qa qb t)

    pub none_between : (a b c : ℕ) → a < n → b < n → c < n → T (seq_cst n ρ a) → T (seq_cst n ρ b) → T (Rf n ρ a b) → T (write n ρ c) → T (same_place n ρ c b) → T (Sc n ρ a c) → T (Sc n ρ c b) → ⊥
    none_between a b c la lb lc qa qb t wc s h₁ h₂ =
        T_not (some n ρ (passed_over a b)) (and_r (Sc n ρ a b) (not (some n ρ (passed_over a b))) (reads_sc a b la lb qa qb t))
        (any_i n (passed_over a b) c lc (search (and_i)))

  -- ---- what a read reads

  module _ (F : Feeds n ρ) where
    -- rule 29
    reads_vse : (a b : ℕ) → a < n → b < n → T (at_plain n ρ b) → T (Rf n ρ a b) → T (vse n ρ a b)
    unfolding rules rule29
    reads_vse a b la lb p t =
        let v : T (Vse n ρ a b) = ⊎_elim (λ q. q) (λ q. absurd (F.seen a b la lb (search (and_i)))) (dec (Vse n ρ a b)) in
        rw filled.vse_is at v

    -- rule 32, first half
    keeps_23 : Holds n ρ 23
    unfolding rules rule32
    keeps_23 a b la lb t = F.newest a b la lb (search (or_l))

    -- the source is earlier: at a non-atomic place it is a vse; of two atomic ends sc decides; else hb does, and the source is not hb-later (rule 30)
    pub rf_before : (a b : ℕ) → a < n → b < n → T (read n ρ b) → T (Rf n ρ a b) → T (precedes n ρ a b)
    unfolding vse rules rule30
    rf_before a b la lb rd t =
        let s : T (same_place n ρ a b) = rf_place a b la lb t in
        ⊎_elim
        (λ m. let v = reads_vse a b la lb m t in or_l (Hb n ρ a b) (Sc n ρ a b) (search (and_l)))
        (λ m. ⊎_elim
        (λ u. or_r (Hb n ρ a b) (Sc n ρ a b)
        (source_sc keeps_23 a b la lb (R.actions_seq_cst a la (and_l (atomic n ρ a) (atomic n ρ b) u)) (R.actions_seq_cst b lb (and_r (atomic n ρ a) (atomic n ρ b) u)) t))
        (λ u. or_l (Hb n ρ a b) (Sc n ρ a b)
        (⊎_elim (λ h. h) (λ h. absurd (F.not_later a b la lb (search (and_i))))
        (race_free a b (clashes a b b la lb lb rd s (same_self a b s) (rf_write a b la lb rd t) (rf_apart a b la lb t)) u)))
        (dec (atomic n ρ a && atomic n ρ b)))
        (read_place b lb rd)

    -- writes of an atomic place follow mo: rule 12 with sc, rule 33 with hb
    along_mo : (a b : ℕ) → a < n → b < n → (a ≡ b → ⊥) → T (at_atomic n ρ b) → T (same_place n ρ a b) → T (write n ρ a) → T (write n ρ b) → Along a b → T (Mo n ρ a b)
    unfolding rules rule33
    along_mo a b la lb ne p s wa wb h =
        ⊎_elim (λ m. m)
        (λ m. absurd (⊎_elim
        (λ (qa, qb, g). sc_one_way n ρ R a b la lb g (mo_sc b a lb la qb qa m))
        (λ g. F.write_write a b la lb (and_i (Hb n ρ a b) (Mo n ρ b a) g m))
        h))
        (mo_total a b la lb ne p s wa wb)

    -- ---- no write c of the place stands between the source a and the read b

    -- at a non-atomic place: a is a vse
    last_plain : (a b c : ℕ) → a < n → b < n → c < n → T (at_plain n ρ b) → T (Rf n ρ a b) → T (write n ρ c) → T (same_place n ρ a c)
        → (c ≡ a → ⊥) → (c ≡ b → ⊥) → T (Hb n ρ a c) → T (Hb n ρ c b) → ⊥
    unfolding vse
    last_plain a b c la lb lc p t wc s nca ncb h₁ h₂ =
        let v : T (vse n ρ a b) = reads_vse a b la lb p t in
        let between : Set = λ c. write n ρ c && same_place n ρ a c && not (eqb c a) && not (eqb c b) && Hb n ρ a c && Hb n ρ c b in
        let free : T (not (some n ρ between)) = search (and_r) in
        let n₁ : T (not (eqb c a)) = neqb_i c a nca in
        let n₂ : T (not (eqb c b)) = neqb_i c b ncb in
        T_not (some n ρ between) free (any_i n between c lc (search (and_i) depth 9))

    -- at an atomic place, by hb to the read: c is after a in mo, which rule 34 forbids
    last_hb : (a b c : ℕ) → a < n → b < n → c < n → T (Rf n ρ a b) → T (Mo n ρ a c) → T (Hb n ρ c b) → ⊥
    unfolding rules rule34
    last_hb a b c la lb lc t m h =
        let u : T (some n ρ λ w. Mo n ρ a w && Hb n ρ w b) = any_i n (λ w. Mo n ρ a w && Hb n ρ w b) c lc (search (and_i)) in
        F.write_read a b la lb (search (and_i))

    -- by sc to the read: rule 32, its first half where a is seq_cst, else its second
    last_sc : (a b c : ℕ) → a < n → b < n → c < n → T (Rf n ρ a b) → T (write n ρ c) → T (same_place n ρ c b) → T (seq_cst n ρ c) → T (seq_cst n ρ b) → Along a c → T (Sc n ρ c b) → ⊥
    unfolding rules rule32
    last_sc a b c la lb lc t wc s qc qb h₁ h₂ =
        ⊎_elim
        (λ qa.
        none_between keeps_23 a b c la lb lc qa qb t wc s
        (⊎_elim (λ (q, r, e). e) (hb_sc n ρ R a c la lc (words.seq_cst_sc a qa) (words.seq_cst_sc c qc)) h₁) h₂)
        (λ nq.
        let e : T (Hb n ρ a c) = ⊎_elim (λ (q, r, e). absurd (T_not (seq_cst n ρ a) nq q)) (λ e. e) h₁ in
        let over : Set = λ c. write n ρ c && same_place n ρ c b && Hb n ρ a c && Sc n ρ c b in
        let u : T (some n ρ over) = any_i n over c lc (search (and_i)) in
        F.newest a b la lb (search (or_r, and_i)))
        (dec (seq_cst n ρ a))

    pub last : (a b c : ℕ) → a < n → b < n → c < n → T (read n ρ b) → T (Rf n ρ a b) → T (write n ρ c) → T (same_place n ρ c b)
        → (c ≡ a → ⊥) → (c ≡ b → ⊥) → (T (precedes n ρ c a) → ⊥) → (T (precedes n ρ b c) → ⊥) → ⊥
    last a b c la lb lc rd t wc s nca ncb back₁ back₂ =
        let sa : T (same_place n ρ a b) = rf_place a b la lb t in
        let wa : T (write n ρ a) = rf_write a b la lb rd t in
        let first : Clash a c = clashes a c b la lc lb rd sa s wa (λ e. nca (sym e)) in
        let h₁ : Along a c = along a c first back₁ in
        let h₂ : Along c b = along c b (clashes c b b lc lb lb rd s (same_self a b sa) wc ncb) back₂ in
        ⊎_elim
        (λ m. last_plain a b c la lb lc m t wc first.same nca ncb (along_plain a c la (places.at_plain_too a b sa m) h₁) (along_plain c b lc (places.at_plain_too c b s m) h₂))
        (λ m. ⊎_elim
        (λ (qc, qb, e). last_sc a b c la lb lc t wc s qc qb h₁ e)
        (λ e. last_hb a b c la lb lc t (along_mo a c la lc first.apart (places.at_atomic_too c b s m) first.same wa wc h₁) e)
        h₂)
        (read_place b lb rd)

  -- ---- the mutexes

  -- the lock of an unlock
  pub record Owner (a : ℕ) : Type 0 where
    pub it : ℕ
    pub below : it < n
    pub locks : T (lock n ρ it)
    pub own : T (same_thread n ρ it a)
    pub same : T (same_place n ρ it a)
    pub edge : T (Sc n ρ it a)
    pub alone : (c : ℕ) → c < n → T (same_place n ρ c a) → T (Sc n ρ it c) → T (Sc n ρ c a) → ⊥

  -- rule 7
  pub owner : (a : ℕ) → a < n → T (unlock n ρ a) → Owner a
  unfolding rules rule7
  owner a l t =
      let f : Set = λ p. immediate n ρ (mutex_sc n ρ) p a && lock n ρ p && same_thread n ρ p a in
      let found : T (some n ρ f) = ⊎_elim (λ q. q) (λ q. let e = eqb_refl a in absurd (off n ρ base 7 (omega arith) tt a a l l (search (and_i)))) (dec (some n ρ f)) in
      let (p, lp, u) = any_e n f found in
      let near : T (mutex_sc n ρ p a) = search (and_l, and_r) in
      let none : T (not (◌⨾◌ n ρ (mutex_sc n ρ) (mutex_sc n ρ) p a)) = search (and_l, and_r) in
      let mp : T (at_mutex n ρ p) = search (and_l, and_r) in
      let sp : T (same_place n ρ p a) = search (and_l, and_r) in
      record {
        it = p;
        below = lp;
        locks = search (and_l, and_r);
        own = search (and_l, and_r);
        same = sp;
        edge = search (and_l, and_r);
        alone = λ c lc s h₁ h₂.
            let spc : T (same_place n ρ p c) = places.place_trans p a c sp (places.place_sym c a s) in
            let mc : T (at_mutex n ρ c) = places.at_mutex_too c p (places.place_sym p c spc) mp in
            T_not (◌⨾◌ n ρ (mutex_sc n ρ) (mutex_sc n ρ) p a) none
            (any_i n (λ z. mutex_sc n ρ p z && mutex_sc n ρ z a) c lc (search (and_i)));
      }

  -- elsewhere all is atomic or plain (rule 2)
  pub at_its_mutex : (a : ℕ) → a < n → T (unlock n ρ a) → T (at_mutex n ρ a)
  at_its_mutex a l u =
      ⊎_elim (λ m. m)
      (⊎_elim
      (λ m. absurd (words.unlock_plain a u (at_plain_lem n ρ base a l m)))
      (λ m. absurd (⊎_elim
      (λ q. words.atomic_mutex a q (or_r (lock n ρ a) (unlock n ρ a) u))
      (words.unlock_plain a u)
      (or_e (atomic n ρ a) (plain n ρ a) (at_atomic_lem n ρ base a l m)))))
      (place_cases n ρ base a l)
