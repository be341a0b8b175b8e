-- Where the order is due, hb is transitive, sc is a strict total order of the SC actions, and the two together have no cycle.
use Rattle.std.specs.Prelude.{ℕ, ◌<◌, not, ◌&&◌, ◌||◌, ◌≡◌, ◌⊎◌, eqb, ltb}
use Rattle.std.proofs.Common.{sym, arith, eqb→eq}
use Rattle.std.proofs.Math.Path.{subst}
use Rattle.std.proofs.Math.Logic.{inl, inr, ⊎_elim}
use Rattle.std.proofs.Math.Dec.{T, eqb_refl}
use Rattle.rows.specs.Sets.{Rel, any}
use Rattle.rows.specs.Laws.Truth.{and_l, and_r, and_i, or_e, or_l, or_r, dec}
use Rattle.rows.proofs.Laws.Quantifiers.{any_e, any_i}
use Rattle.rows.proofs.Laws.Closure.{least_closed}
use Rattle.model.specs.Model.{Book, Sb, Asw, Sc, Rf, Sw, Cad, Dob, Hb, DataRaces, UnsequencedRaces, some, ◌⨾◌, strict, total, read, atomic, seq_cst, sc_action, sc_pair, consume, release, rs, r, ithb_step, sw, dob, rules, rule10, rule11}
use Rattle.model.specs.Judge.{precedes, greedy}
use Rattle.model.specs.Laws.Filled.{Filled}
use Rattle.model.specs.Laws.Holds.{Holds, strict_irrefl, strict_trans, total_strict, total_ends, total_either}
use Rattle.model.proofs.Laws.Cycles.{sb_irrefl, sb_trans, step_e, sbr_step, r_step, path, path_trans, one_step, sb_path, hb_e, sb_hb, path_hb, path_irrefl}
use Rattle.order.specs.Serial.{Sequenced}
use Rattle.order.specs.Laws.Words.{Wording}
use Rattle.order.specs.Laws.Places.{Base, off}
use Rattle.order.specs.Laws.Greedy.{Ordered, all_ordered}

-- what the conditions of either edition come to
pub record Ready (n : ℕ) (ρ : Book) : Type 0 where
  pub base : Base n ρ
  -- no race,
  pub no_data_race : (a b : ℕ) → a < b → b < n → T (not (DataRaces n ρ a b))
  pub no_unsequenced_race : (a b : ℕ) → a < b → b < n → T (not (UnsequencedRaces n ρ a b))
  -- no indeterminate read,
  pub source : (b : ℕ) → b < n → T (read n ρ b) → (a : ℕ) × (a < n) × T (Rf n ρ a b)
  -- every atomic action seq_cst,
  pub actions_seq_cst : (a : ℕ) → a < n → T (atomic n ρ a) → T (seq_cst n ρ a)
  -- and a plain and an atomic access of one thread at one place, one a write, sequenced either way
  pub sequenced : Sequenced n ρ

module _ (n : ℕ) (ρ : Book) (R : Ready n ρ) where
  abbrev words : Wording n ρ
  words = R.base.words

  abbrev F : Filled n ρ
  F = R.base.filled

  ok4 : Holds n ρ 4
  ok4 = off n ρ R.base 4 (omega arith) tt

  -- ---- hb is irreflexive (rules 4 and 9)

  pub sb_in_hb : (a b : ℕ) → a < n → b < n → T (Sb n ρ a b) → T (Hb n ρ a b)
  sb_in_hb = sb_hb n ρ F

  hb_irrefl : (a : ℕ) → a < n → T (Hb n ρ a a) → ⊥
  hb_irrefl a l t = ⊎_elim (sb_irrefl n ρ ok4 a l) (path_irrefl n ρ F (off n ρ R.base 9 (omega arith) tt) a l) (hb_e n ρ F a a l l t)

  -- ---- no consume, so no dob, so hb is transitive

  -- a consume is an atomic action, so seq_cst
  no_consume : (b : ℕ) → b < n → T (consume n ρ b) → ⊥
  no_consume b l t = words.consume_seq_cst b t (R.actions_seq_cst b l (words.consume_atomic b t))

  no_dob : (a b : ℕ) → a < n → b < n → T (Dob n ρ a b) → ⊥
  unfolding dob
  no_dob a b la lb t =
      let q : T (dob n ρ a b) = rw F.dob_is at t in
      let (c, lc, p) = any_e n (λ c. release n ρ a && consume n ρ c && (some n ρ λ e. rs n ρ a e && Rf n ρ e c) && (eqb b c || Cad n ρ c b)) q in
      no_consume c lc (search (and_l, and_r))

  r_e : (a b : ℕ) → a < n → b < n → T (r n ρ a b) → T (Sw n ρ a b) ⊎ ((z : ℕ) × (z < n) × T (Sw n ρ a z) × T (Sb n ρ z b))
  r_e a b la lb t =
      ⊎_elim
      (λ u. ⊎_elim inl (λ v. absurd (no_dob a b la lb v)) (or_e (Sw n ρ a b) (Dob n ρ a b) u))
      (λ u. let (z, lz, w) = any_e n (λ z. Sw n ρ a z && Sb n ρ z b) u in inr (z, lz, and_l (Sw n ρ a z) (Sb n ρ z b) w, and_r (Sw n ρ a z) (Sb n ρ z b) w))
      (or_e (Sw n ρ a b || Dob n ρ a b) (◌⨾◌ n ρ (Sw n ρ) (Sb n ρ) a b) t)

  swsb_r : (a z b : ℕ) → z < n → T (Sw n ρ a z) → T (Sb n ρ z b) → T (r n ρ a b)
  swsb_r a z b lz p q =
      let t : T (◌⨾◌ n ρ (Sw n ρ) (Sb n ρ) a b) = any_i n (λ z. Sw n ρ a z && Sb n ρ z b) z lz (search (and_i)) in
      search (or_r)

  r_sb : (a b c : ℕ) → a < n → b < n → c < n → T (r n ρ a b) → T (Sb n ρ b c) → T (r n ρ a c)
  r_sb a b c la lb lc p q =
      ⊎_elim
      (λ u. swsb_r a b c lb u q)
      (λ (z, lz, u, v). swsb_r a z c lz u (sb_trans n ρ ok4 z b c lz lb lc v q))
      (r_e a b la lb p)

  path_sb : (a b c : ℕ) → a < n → b < n → c < n → T (path n ρ a b) → T (Sb n ρ b c) → T (path n ρ a c)
  path_sb a b c la lb lc p q =
      (least_closed (ithb_step n ρ) n (λ a b. ((c : ℕ) → c < n → T (Sb n ρ b c) → T (path n ρ a c)) × T (path n ρ a b))
      (λ a b la lb t. (
        λ c lc s. one_step n ρ a c (⊎_elim (λ u. r_step n ρ a c (r_sb a b c la lb lc u s)) (λ (z, lz, u, v). sbr_step n ρ a z c lz u (r_sb z b c lz lb lc v s)) (step_e n ρ a b t)),
        one_step n ρ a b t,
      ))
      (λ a b c la lb lc (f, p) (g, q). (λ e le s. path_trans n ρ a b e lb p (g e le s), path_trans n ρ a b c lb p q))
      a b la lb p).0 c lc q

  hb_trans : (a b c : ℕ) → a < n → b < n → c < n → T (Hb n ρ a b) → T (Hb n ρ b c) → T (Hb n ρ a c)
  hb_trans a b c la lb lc p q =
      ⊎_elim
      (λ u. ⊎_elim (λ v. sb_in_hb a c la lc (sb_trans n ρ ok4 a b c la lb lc u v)) (λ v. path_hb n ρ F a c la lc (sb_path n ρ ok4 a b c la lb lc u v)) (hb_e n ρ F b c lb lc q))
      (λ u. path_hb n ρ F a c la lc (⊎_elim (λ v. path_sb a b c la lb lc u v) (λ v. path_trans n ρ a b c lb u v) (hb_e n ρ F b c lb lc q)))
      (hb_e n ρ F a b la lb p)

  pub asw_in_hb : (a b : ℕ) → a < n → b < n → T (Asw n ρ a b) → T (Hb n ρ a b)
  unfolding sw
  asw_in_hb a b la lb t =
      let s : T (Sw n ρ a b) = rw F.sw_is (search (or_l)) in
      path_hb n ρ F a b la lb (one_step n ρ a b (r_step n ρ a b (search (or_l))))

  -- ---- sc is a strict total order on the SC actions (rule 10), and hb between them is part of it (rule 11)

  sc_order : (a b : ℕ) → a < n → b < n → T (total n ρ (sc_pair n ρ) (Sc n ρ) a b) → ⊥
  unfolding rules rule10
  sc_order = off n ρ R.base 10 (omega arith) tt

  pub sc_ends : (a b : ℕ) → a < n → b < n → T (Sc n ρ a b) → T (sc_pair n ρ a b)
  sc_ends = total_ends n ρ (sc_pair n ρ) (Sc n ρ) sc_order

  sc_strict : (a b : ℕ) → a < n → b < n → T (strict n ρ (Sc n ρ) a b) → ⊥
  sc_strict = total_strict n ρ (sc_pair n ρ) (Sc n ρ) sc_order

  sc_irrefl : (a : ℕ) → a < n → T (Sc n ρ a a) → ⊥
  sc_irrefl = strict_irrefl n ρ (Sc n ρ) sc_strict

  sc_trans : (a b c : ℕ) → a < n → b < n → c < n → T (Sc n ρ a b) → T (Sc n ρ b c) → T (Sc n ρ a c)
  sc_trans = strict_trans n ρ (Sc n ρ) sc_strict

  pub sc_one_way : (a b : ℕ) → a < n → b < n → T (Sc n ρ a b) → T (Sc n ρ b a) → ⊥
  sc_one_way a b la lb p q = sc_irrefl a la (sc_trans a b a la lb la p q)

  pub sc_total : (a b : ℕ) → a < n → b < n → (a ≡ b → ⊥) → T (sc_action n ρ a) → T (sc_action n ρ b) → T (Sc n ρ a b) ⊎ T (Sc n ρ b a)
  sc_total a b la lb ne sa sb = total_either n ρ (sc_pair n ρ) (Sc n ρ) sc_order a b la lb ne (search (and_i)) (search (and_i))

  pub hb_sc : (a b : ℕ) → a < n → b < n → T (sc_action n ρ a) → T (sc_action n ρ b) → T (Hb n ρ a b) → T (Sc n ρ a b)
  unfolding rules rule11
  hb_sc a b la lb sa sb h = ⊎_elim (λ q. q) (λ q. absurd (off n ρ R.base 11 (omega arith) tt a b la lb (search (and_i)))) (dec (Sc n ρ a b))

  -- ---- hb and sc together have no cycle

  -- the same, or hb
  near : Rel
  near a b = eqb a b || Hb n ρ a b

  hb_near : (a b : ℕ) → T (Hb n ρ a b) → T (near a b)
  unfolding near
  hb_near a b t = or_r (eqb a b) (Hb n ρ a b) t

  near_refl : (a : ℕ) → T (near a a)
  unfolding near
  near_refl a = or_l (eqb a a) (Hb n ρ a a) (eqb_refl a)

  near_trans : (a b c : ℕ) → a < n → b < n → c < n → T (near a b) → T (near b c) → T (near a c)
  unfolding near
  near_trans a b c la lb lc p q =
      ⊎_elim
      (λ e. subst (λ (x : ℕ). T (near x c)) (sym (eqb→eq a b e)) q)
      (λ h. ⊎_elim
      (λ e. subst (λ (x : ℕ). T (near a x)) (eqb→eq b c e) p)
      (λ g. hb_near a c (hb_trans a b c la lb lc h g))
      (or_e (eqb b c) (Hb n ρ b c) q))
      (or_e (eqb a b) (Hb n ρ a b) p)

  -- between SC actions that is the same, or sc
  near_sc : (a b c : ℕ) → a < n → b < n → c < n → T (sc_action n ρ a) → T (sc_action n ρ b) → T (near a b) → T (Sc n ρ b c) → T (Sc n ρ a c)
  unfolding near
  near_sc a b c la lb lc sa sb p q =
      ⊎_elim
      (λ e. subst (λ (x : ℕ). T (Sc n ρ x c)) (sym (eqb→eq a b e)) q)
      (λ h. sc_trans a b c la lb lc (hb_sc a b la lb sa sb h) q)
      (or_e (eqb a b) (Hb n ρ a b) p)

  -- hb, or an sc edge with hb or nothing on either side
  ahead : Rel
  ahead a b = Hb n ρ a b || (any n λ x. any n λ y. near a x && Sc n ρ x y && near y b)

  record Detour (a b : ℕ) : Type 0 where
    x : ℕ
    y : ℕ
    lx : x < n
    ly : y < n
    into : T (near a x)
    edge : T (Sc n ρ x y)
    out : T (near y b)

  ahead_e : (a b : ℕ) → T (ahead a b) → T (Hb n ρ a b) ⊎ Detour a b
  unfolding ahead
  ahead_e a b t =
      ⊎_elim inl
      (λ u.
      let (x, lx, v) = any_e n (λ x. any n λ y. near a x && Sc n ρ x y && near y b) u in
      let (y, ly, w) = any_e n (λ y. near a x && Sc n ρ x y && near y b) v in
      inr (record { x = x; y = y; lx = lx; ly = ly; into = search (and_l, and_r); edge = search (and_l, and_r); out = search (and_l, and_r) }))
      (or_e (Hb n ρ a b) (any n λ x. any n λ y. near a x && Sc n ρ x y && near y b) t)

  ahead_hb : (a b : ℕ) → T (Hb n ρ a b) → T (ahead a b)
  unfolding ahead
  ahead_hb a b t = search (or_l)

  ahead_by : (a b : ℕ) → Detour a b → T (ahead a b)
  unfolding ahead
  ahead_by a b v =
      or_r (Hb n ρ a b) (any n λ x. any n λ y. near a x && Sc n ρ x y && near y b)
      (any_i n (λ x. any n λ y. near a x && Sc n ρ x y && near y b) v.x v.lx
      (any_i n (λ y. near a v.x && Sc n ρ v.x y && near y b) v.y v.ly (search (and_i))))

  -- from where one sc edge ends to where another starts
  sc_chain : (x y z w : ℕ) → x < n → y < n → z < n → w < n → T (Sc n ρ x y) → T (near y z) → T (Sc n ρ z w) → T (Sc n ρ x w)
  sc_chain x y z w lx ly lz lw p h q =
      sc_trans x y w lx ly lw p
      (near_sc y z w ly lz lw
      (and_r (sc_action n ρ x) (sc_action n ρ y) (sc_ends x y lx ly p))
      (and_l (sc_action n ρ z) (sc_action n ρ w) (sc_ends z w lz lw q)) h q)

  ahead_trans : (a b c : ℕ) → a < n → b < n → c < n → T (ahead a b) → T (ahead b c) → T (ahead a c)
  ahead_trans a b c la lb lc p q =
      ⊎_elim
      (λ u. ⊎_elim
      (λ v. ahead_hb a c (hb_trans a b c la lb lc u v))
      (λ v. ahead_by a c (record { x = v.x; y = v.y; lx = v.lx; ly = v.ly; into = near_trans a b v.x la lb v.lx (hb_near a b u) v.into; edge = v.edge; out = v.out }))
      (ahead_e b c q))
      (λ u. ⊎_elim
      (λ v. ahead_by a c (record { x = u.x; y = u.y; lx = u.lx; ly = u.ly; into = u.into; edge = u.edge; out = near_trans u.y b c u.ly lb lc u.out (hb_near b c v) }))
      (λ v. ahead_by a c (record {
        x = u.x;
        y = v.y;
        lx = u.lx;
        ly = v.ly;
        into = u.into;
        edge = sc_chain u.x u.y v.x v.y u.lx u.ly v.lx v.ly u.edge (near_trans u.y b v.x u.ly lb v.lx u.out v.into) v.edge;
        out = v.out;
      }))
      (ahead_e b c q))
      (ahead_e a b p)

  ahead_irrefl : (a : ℕ) → a < n → T (ahead a a) → ⊥
  ahead_irrefl a l t =
      ⊎_elim
      (hb_irrefl a l)
      (λ u.
      let ends = sc_ends u.x u.y u.lx u.ly u.edge in
      sc_irrefl u.y u.ly
      (near_sc u.y u.x u.y u.ly u.lx u.ly
      (and_r (sc_action n ρ u.x) (sc_action n ρ u.y) ends)
      (and_l (sc_action n ρ u.x) (sc_action n ρ u.y) ends)
      (near_trans u.y a u.x u.ly l u.lx u.out u.into) u.edge))
      (ahead_e a a t)

  ahead_precedes : (a b : ℕ) → a < n → b < n → T (precedes n ρ a b) → T (ahead a b)
  ahead_precedes a b la lb t =
      ⊎_elim
      (ahead_hb a b)
      (λ s. ahead_by a b (record { x = a; y = b; lx = la; ly = lb; into = near_refl a; edge = s; out = near_refl b }))
      (or_e (Hb n ρ a b) (Sc n ρ a b) t)

  pub precedes_irrefl : (a : ℕ) → a < n → T (precedes n ρ a a) → ⊥
  precedes_irrefl a l t = ahead_irrefl a l (ahead_precedes a a l l t)

  -- so the greedy order lists every action once and keeps every edge of the two
  pub sorted : Ordered n (precedes n ρ) n (λ a. ltb a n) (greedy n (precedes n ρ) n (λ a. ltb a n))
  sorted = all_ordered n (precedes n ρ) ahead ahead_precedes ahead_trans ahead_irrefl
