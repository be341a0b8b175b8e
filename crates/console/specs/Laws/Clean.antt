-- Edition 2 passes a candidate whose actions have such times: the rules about the shape of relations hold, and so all rules do.
use Rattle.std.specs.Prelude.{ℕ, ◌+◌, ◌<◌, ◌&&◌, ◌||◌, ◌≡◌, ◌⊎◌, eqb, ltb}
use Rattle.std.proofs.Math.Bool.{Bool, false, not}
use Rattle.std.proofs.Common.{sym, ◌∙◌, subst, eqb→eq, ltb→lt, below_none, below_more}
use Rattle.std.proofs.Math.Logic.{inl, inr, ⊎_elim}
use native.Mathlib.Omega.{arith}
use Rattle.std.proofs.Math.Dec.{T, T_not}
use Rattle.rows.specs.Sets.{Rel}
use Rattle.rows.specs.Laws.Truth.{order3, and_l, and_r, and_i, or_l, true_T, is_false, neqb_e, neqb_i}
use Rattle.rows.proofs.Laws.Quantifiers.{any_e}
use Rattle.model.specs.Model.{Book, Sb, Dd, Cd, Rf, Mo, Sc, Hb, some, ◌⨾◌, strict, total, of_mutex, of_atomic, writes_of, sc_pair, mutex_sc, place_mo, atomic, plain, write, read, fence, lock, unlock, seq_cst, at_mutex, at_plain, at_atomic, atomic_load, atomic_store, load_order, store_order, same_thread, same_place, same_value, in_force, rules, rule1, rule2, rule3, rule4, rule5, rule6, rule7, rule8, rule10, rule11, rule12, rule13, rule14, rule16, rule17, rule18, rule23, rule24, rule25, rule26, rule29, rule32}
use Rattle.model.specs.Laws.Filled.{Filled}
use Rattle.model.specs.Laws.Holds.{Holds}
use Rattle.model.proofs.Laws.Cycles.{acyclic}
use Rattle.model.specs.Laws.Verdicts.{Clean}
use Rattle.console.specs.Laws.Timed.{Timed}
use Rattle.console.specs.Laws.Late.{either, Seen, unseen}
use Rattle.console.specs.Laws.Coherent.{ok9, ok28, ok30, ok31, ok33, ok34, ok35, ok36}

-- ---- what makes a strict order, and one that is total on a set

-- no pair of the n actions is in the relation
abbrev Clear : ℕ → Rel → Type 0
Clear n s = (a b : ℕ) → a < n → b < n → T (s a b) → ⊥

module _ (n : ℕ) (ρ : Book) (s : Rel) where
  -- irreflexive and transitive
  strict_ok : ((a : ℕ) → a < n → T (s a a) → ⊥) → ((a z b : ℕ) → a < n → z < n → b < n → T (s a z) → T (s z b) → T (s a b)) → Clear n (strict n ρ s)
  strict_ok irrefl trans a b la lb t =
      either (s a b && eqb b a) (◌⨾◌ n ρ s s a b && not (s a b))
      (λ v. irrefl a la (subst (λ (x : ℕ). T (s a x)) (eqb→eq b a (search (and_r))) (search (and_l))))
      (λ v.
      let (z, lz, w) = any_e n (λ z. s a z && s z b) (search (and_l)) in
      T_not (s a b) (search (and_r)) (trans a z b la lz lb (search (and_l)) (search (and_r))))
      t

  -- no edge at all
  strict_empty : Clear n s → Clear n (strict n ρ s)
  strict_empty out = strict_ok (λ a la t. out a a la la t) (λ a z b la lz lb p q. absurd (out a z la lz p))

  module _ (inside : Rel) where
    -- a strict order with no edge outside, and one way or the other inside
    total_ok : Clear n (strict n ρ s) → ((a b : ℕ) → a < n → b < n → T (s a b) → T (inside a b))
        → ((a b : ℕ) → a < b → b < n → T (inside a b) → T (s a b) ⊎ T (s b a)) → Clear n (total n ρ inside s)
    total_ok orders stays meets a b la lb t =
        let outside : Bool = s a b && not (inside a b) in
        let unmet : Bool = ltb a b && inside a b && not (s a b) && not (s b a) in
        either (strict n ρ s a b || outside) unmet
        (either (strict n ρ s a b) outside (orders a b la lb) (λ v. T_not (inside a b) (search (and_r)) (stays a b la lb (search (and_l)))))
        (λ v.
        let l : T (ltb a b) = search (and_l, and_r) in
        ⊎_elim (T_not (s a b) (search (and_l, and_r))) (T_not (s b a) (search (and_r))) (meets a b (ltb→lt a b l) lb (search (and_l, and_r))))
        t

    -- no edge, and no pair inside
    total_empty : Clear n s → Clear n inside → Clear n (total n ρ inside s)
    total_empty out none = total_ok (strict_empty out) (λ a b la lb t. absurd (out a b la lb t)) (λ a b l lb t. absurd (none a b (omega arith) lb t))

module _ (n : ℕ) (ρ : Book) (F : Filled n ρ) (K : Timed n ρ) where
  -- ---- 1 and 2: words

  ok1 : Holds n ρ 1
  unfolding rules rule1
  ok1 a b la lb t =
      let loads : Bool = atomic_load n ρ a && not (load_order n ρ a) in
      let stores : Bool = atomic_store n ρ a && not (store_order n ρ a) in
      either loads stores
      (λ v. T_not (load_order n ρ a) (search (and_r)) (K.load_order_lem a la (search (and_l))))
      (λ v. T_not (store_order n ρ a) (search (and_r)) (K.store_order_lem a la (search (and_l))))
      (search (and_r))

  ok2 : Holds n ρ 2
  unfolding rules rule2
  ok2 a b la lb t =
      let p : Bool = at_mutex n ρ a && not (lock n ρ a || unlock n ρ a) in
      let q : Bool = at_plain n ρ a && not (plain n ρ a) in
      let s : Bool = at_atomic n ρ a && not (atomic n ρ a || plain n ρ a) in
      either (p || q) s
      (either p q (λ v. K.no_mutex a la (search (and_l))) (λ v. K.no_plain_place a la (search (and_l))))
      (λ v. T_not (atomic n ρ a || plain n ρ a) (search (and_r)) (or_l (atomic n ρ a) (plain n ρ a) (K.atomic_all a la)))
      (search (and_r))

  -- ---- 3 to 5: sb is by number in each thread; dd and cd are empty

  ok3 : Holds n ρ 3
  unfolding rules rule3
  ok3 a b la lb t =
      let apart : T (not (same_thread n ρ a b)) = search (and_r) in
      either (Sb n ρ a b || Dd n ρ a b) (Cd n ρ a b)
      (either (Sb n ρ a b) (Dd n ρ a b) (λ v. T_not (same_thread n ρ a b) apart (K.thread_i a b la lb (K.sb_thread a b la lb v))) (K.no_dd a b la lb))
      (K.no_cd a b la lb)
      (search (and_l))

  sb_strict : Clear n (strict n ρ (Sb n ρ))
  sb_strict =
      strict_ok n ρ (Sb n ρ)
      (λ a la t. omega (arith, K.sb_up a a la la t))
      (λ a z b la lz lb p q. K.sb_i a b lb (K.sb_thread a z la lz p ∙ K.sb_thread z b lz lb q) (omega (arith, K.sb_up a z la lz p, K.sb_up z b lz lb q)))

  ok4 : Holds n ρ 4
  unfolding rules rule4
  ok4 a b la lb t =
      either (strict n ρ (Sb n ρ) a b || strict n ρ (Dd n ρ) a b) (strict n ρ (Cd n ρ) a b)
      (either (strict n ρ (Sb n ρ) a b) (strict n ρ (Dd n ρ) a b) (sb_strict a b la lb) (strict_empty n ρ (Dd n ρ) K.no_dd a b la lb))
      (strict_empty n ρ (Cd n ρ) K.no_cd a b la lb)
      t

  ok5 : Holds n ρ 5
  unfolding rules rule5
  ok5 a b la lb t = K.no_dd a b la lb (search (and_l))

  -- ---- 6 to 8: there is no mutex

  ok6 : Holds n ρ 6
  unfolding rules rule6
  ok6 = total_empty n ρ (mutex_sc n ρ) (of_mutex n ρ) (λ a b la lb t. K.no_mutex a la (search (and_l))) (λ a b la lb t. K.no_mutex a la (search (and_l)))

  ok7 : Holds n ρ 7
  unfolding rules rule7
  ok7 a b la lb t = K.no_unlock a la (search (and_l, and_r))

  ok8 : Holds n ρ 8
  unfolding rules rule8
  ok8 p a lp la t = K.no_lock a la (search (and_l))

  -- ---- 10 to 12, 16 and 24 to 26: there is no SC action, and sc is empty

  ok10 : Holds n ρ 10
  unfolding rules rule10
  ok10 = total_empty n ρ (Sc n ρ) (sc_pair n ρ) K.no_sc (λ a b la lb t. K.no_sc_action a la (search (and_l)))

  ok11 : Holds n ρ 11
  unfolding rules rule11
  ok11 a b la lb t = K.no_sc_action a la (search (and_l))

  ok12 : Holds n ρ 12
  unfolding rules rule12
  ok12 a b la lb t = K.no_sc_action a la (search (and_l))

  ok16 : Holds n ρ 16
  unfolding rules rule16
  ok16 a b la lb t =
      let via : T (some n ρ λ f. some n ρ λ g. Sb n ρ a f && (fence n ρ f && fence n ρ g && Sc n ρ f g) && Sb n ρ g b) = search (and_l, and_r) in
      let (f, lf, u) = any_e n _ via in
      let (g, lg, v) = any_e n _ u in
      K.no_sc f g lf lg (search (and_l, and_r))

  ok24 : Holds n ρ 24
  unfolding rules rule24
  ok24 y b ly lb t =
      let (a, la, u) = any_e n _ t in
      let (f, lf, v) = any_e n _ u in
      K.no_sc a f la lf (search (and_l, and_r))

  ok25 : Holds n ρ 25
  unfolding rules rule25
  ok25 y b ly lb t =
      let (a, la, u) = any_e n _ t in
      let (f, lf, v) = any_e n _ u in
      K.no_sc f b lf lb (search (and_l, and_r))

  ok26 : Holds n ρ 26
  unfolding rules rule26
  ok26 y b ly lb t =
      let (a, la, u) = any_e n _ t in
      let (f, lf, v) = any_e n _ u in
      let (g, lg, w) = any_e n _ v in
      K.no_sc f g lf lg (search (and_l, and_r))

  -- ---- 13 and 14: mo is by arrival in memory

  -- it joins writes of one atomic place,
  mo_writes : (a b : ℕ) → a < n → b < n → T (Mo n ρ a b) → T (writes_of n ρ a b)
  mo_writes a b la lb m =
      let here : T (at_atomic n ρ a) = K.at_atomic_lem a la in
      let same : T (same_place n ρ a b) = K.place_i a b la lb (K.mo_place a b la lb m) in
      let wa : T (write n ρ a) = K.mo_from a b la lb m in
      let wb : T (write n ρ b) = K.mo_to a b la lb m in
      search (and_i)

  -- and is a strict order
  mo_irrefl : (a : ℕ) → a < n → T (Mo n ρ a a) → ⊥
  mo_irrefl a la m = omega (arith, K.mo_up a a la la m)

  mo_trans : (a z b : ℕ) → a < n → z < n → b < n → T (Mo n ρ a z) → T (Mo n ρ z b) → T (Mo n ρ a b)
  mo_trans a z b la lz lb p q =
      K.mo_i a b la lb (K.mo_from a z la lz p) (K.mo_to z b lz lb q) (K.mo_place a z la lz p ∙ K.mo_place z b lz lb q) (omega (arith, K.mo_up a z la lz p, K.mo_up z b lz lb q))

  -- of two writes of a place, one arrived first
  mo_meets : (a b : ℕ) → a < n → b < n → (a ≡ b → ⊥) → T (writes_of n ρ a b) → T (Mo n ρ a b) ⊎ T (Mo n ρ b a)
  mo_meets a b la lb ne t =
      let wa : T (write n ρ a) = search (and_l, and_r) in
      let wb : T (write n ρ b) = search (and_l, and_r) in
      let same = K.place_e a b la lb (search (and_l, and_r)) in
      ⊎_elim
      (λ l. inl (K.mo_i a b la lb wa wb same l))
      (⊎_elim (λ e. absurd (ne (K.apart a b la lb wa wb e))) (λ l. inr (K.mo_i b a lb la wb wa (sym same) l)))
      (order3 (K.settled a) (K.settled b))

  ok13 : Holds n ρ 13
  unfolding rules rule13
  ok13 a b la lb t =
      let m : T (Mo n ρ a b) = search (and_l) in
      let apart : T (not (eqb b a)) = neqb_i b a (λ e. mo_irrefl a la (subst (λ (x : ℕ). T (Mo n ρ a x)) e m)) in
      T_not (not (eqb b a) && writes_of n ρ a b) (search (and_r)) (and_i (not (eqb b a)) (writes_of n ρ a b) apart (mo_writes a b la lb m))

  -- kept to one place it is the same
  place_mo_lem : (a b : ℕ) → a < n → b < n → T (Mo n ρ a b) → T (place_mo n ρ a b)
  place_mo_lem a b la lb m = let w = mo_writes a b la lb m in search (and_l, and_i)

  mo_of_lem : (a b : ℕ) → T (place_mo n ρ a b) → T (Mo n ρ a b)
  mo_of_lem a b t = and_r (of_atomic n ρ a b) (Mo n ρ a b) t

  ok14 : Holds n ρ 14
  unfolding rules rule14
  ok14 =
      total_ok n ρ (place_mo n ρ) (writes_of n ρ)
      (strict_ok n ρ (place_mo n ρ)
      (λ a la t. mo_irrefl a la (mo_of_lem a a t))
      (λ a z b la lz lb p q. place_mo_lem a b la lb (mo_trans a z b la lz lb (mo_of_lem a z p) (mo_of_lem z b q))))
      (λ a b la lb t. mo_writes a b la lb (mo_of_lem a b t))
      (λ a b l lb t.
      let la : a < n = omega arith in
      ⊎_elim (λ m. inl (place_mo_lem a b la lb m)) (λ m. inr (place_mo_lem b a lb la m)) (mo_meets a b la lb (λ e. omega arith) t))

  -- ---- 17 and 18: the source of a read

  ok17 : Holds n ρ 17
  unfolding rules rule17
  ok17 a b la lb t =
      let f : T (Rf n ρ a b) = search (and_l) in
      let same : T (same_place n ρ a b) = K.place_i a b la lb (K.rf_place a b la lb f) in
      let apart : T (not (eqb b a)) = neqb_i b a (λ e. unseen n ρ F K a la (subst (λ (x : ℕ). Seen n ρ F K a x) e (K.rf_seen a b la lb f))) in
      let v : T (same_value n ρ a b) = K.rf_value a b la lb f in
      let wr : T (write n ρ a) = K.rf_from a b la lb f in
      let rd : T (read n ρ b) = K.rf_to a b la lb f in
      let none : at_mutex n ρ a ≡ false = is_false (at_mutex n ρ a) (λ e. K.no_mutex a la (true_T e)) in
      let out = rw none at t in
      T_not (same_place n ρ a b && not (eqb b a) && (same_value n ρ a b && write n ρ a && read n ρ b)) (search (and_r)) (search (and_i))

  ok18 : Holds n ρ 18
  unfolding rules rule18
  ok18 a b la lb t =
      let f : T (Rf n ρ a b) = search (and_l) in
      let other : T (some n ρ λ c. not (eqb c a) && Rf n ρ c b) = search (and_r) in
      let (c, lc, v) = any_e n _ other in
      let g : T (Rf n ρ c b) = search (and_r) in
      let wa = K.rf_from a b la lb f in
      let wc = K.rf_from c b lc lb g in
      let no_later = K.rf_last a b c la lb lc f wc (K.rf_place c b lc lb g) (K.rf_seen c b lc lb g) in
      let no_earlier = K.rf_last c b a lc lb la g wa (K.rf_place a b la lb f) (K.rf_seen a b la lb f) in
      neqb_e c a (search (and_l)) (K.apart c a lc la wc wa (omega arith))

  -- ---- 29 and 32: there is no plain place, and no seq_cst

  ok29 : Holds n ρ 29
  unfolding rules rule29
  ok29 w r lw lr t = K.no_plain_place r lr (search (and_l, and_r))

  ok32 : Holds n ρ 32
  unfolding rules rule32 rule23
  ok32 w r lw lr t =
      either (rule23 n ρ w r) (Rf n ρ w r && seq_cst n ρ r && not (seq_cst n ρ w) && (some n ρ λ c. write n ρ c && same_place n ρ c r && Hb n ρ w c && Sc n ρ c r))
      (λ u. K.no_seq_cst r lr (search (and_l, and_r)))
      (λ u. K.no_seq_cst r lr (search (and_l, and_r)))
      t

  -- ---- all rules, by number

  -- there is no rule 0
  ok0 : Holds n ρ 0
  unfolding rules
  ok0 a b la lb t = t

  -- each rule below m that is in force holds
  abbrev Below : ℕ → Type 0
  Below m = (k : ℕ) → k < m → T (in_force 2 k) → Holds n ρ k

  -- what holds of those and of rule m holds of those below m + 1
  more : (m : ℕ) → Below m → (T (in_force 2 m) → Holds n ρ m) → Below (m + 1)
  more = below_more (λ (k : ℕ). T (in_force 2 k) → Holds n ρ k)

  -- rule m holds, too,
  infixl 30 ◌▸◌
  ◌▸◌ : {m : ℕ} → Below m → Holds n ρ m → Below (m + 1)
  ◌▸◌ {m} below ok = more m below (λ _. ok)

  -- or it is not in force
  infixl 30 ◌▹◌
  ◌▹◌ : {m : ℕ} → Below m → T (not (in_force 2 m)) → Below (m + 1)
  ◌▹◌ {m} below out = more m below (λ force. absurd (T_not (in_force 2 m) out force))

  -- No rule in force in edition 2 offends. (Ten numbers to a line.)
  pub clean : Clean 2 n ρ
  clean = record {
    never_offends =
        below_none (λ (k : ℕ). T (in_force 2 k) → Holds n ρ k)
        ▸ ok0 ▸ ok1 ▸ ok2 ▸ ok3 ▸ ok4 ▸ ok5 ▸ ok6 ▸ ok7 ▸ ok8 ▸ ok9 n ρ F K
        ▸ ok10 ▸ ok11 ▸ ok12 ▸ ok13 ▸ ok14 ▹ tt ▸ ok16 ▸ ok17 ▸ ok18 ▹ tt
        ▹ tt ▹ tt ▹ tt ▹ tt ▸ ok24 ▸ ok25 ▸ ok26 ▸ acyclic n ρ ok4 F (ok9 n ρ F K) ▸ ok28 n ρ F K ▸ ok29
        ▸ ok30 n ρ F K ▸ ok31 n ρ F K ▸ ok32 ▸ ok33 n ρ F K ▸ ok34 n ρ F K ▸ ok35 n ρ F K ▸ ok36 n ρ F K;
  }
