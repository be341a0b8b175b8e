-- Edition 1, where every action at an atomic place is seq_cst: rules 29, 30, 32, 33 and 34 of edition 2 hold, too.
use Rattle.std.specs.Prelude.{ℕ, ◌<◌, true, false, ◌&&◌, cond, eqb}
use Rattle.std.proofs.Math.Bool.{Bool, not}
use Rattle.std.proofs.Math.Path.{subst}
use Rattle.std.proofs.Math.Logic.{⊎_elim}
use Rattle.std.proofs.Common.{arith}
use Rattle.std.proofs.Math.Dec.{T, T_not, eqb_refl}
use Rattle.rows.specs.Laws.Truth.{and_l, and_r, and_i, or_e}
use Rattle.rows.proofs.Laws.Quantifiers.{any_e, any_i}
use Rattle.model.specs.Model.{Book, Rf, Sc, Mo, Hb, Vse, some, read, write, seq_cst, at_plain, at_atomic, same_place, writes_of, rules, rule19, rule23, rule29, rule30, rule32, rule33, rule34}
use Rattle.model.specs.Laws.Holds.{Holds, mo_ends, one_source}
use Rattle.model.specs.Laws.Placing.{Placing}
use Rattle.order.specs.Laws.Words.{Wording}
use Rattle.order.specs.Laws.Places.{Base, off, at_plain_lem, atomic_place_lem}
use Rattle.order.specs.Laws.Before.{Ready, hb_sc, sc_one_way}
use Rattle.order.specs.Laws.Reads.{Feeds, rf_kinds, rf_place, mo_sc, source_sc, none_between}

-- a test by cases that fails, and its last case holds: the middle one holds
fed : (s t u : Bool) → (T (cond s (not t) u) → ⊥) → T u → T t
fed true true u f q = tt
fed true false u f q = f tt
fed false t u f q = absurd (f q)

module _ (n : ℕ) (ρ : Book) (R : Ready n ρ) (old : T (not (eqb R.base.edition 2))) (strong : (a : ℕ) → a < n → T (at_atomic n ρ a) → T (seq_cst n ρ a)) where
  abbrev base : Base n ρ
  base = R.base

  abbrev words : Wording n ρ
  words = R.base.words

  abbrev places : Placing n ρ
  places = R.base.places

  -- rules 15 and 19 to 23 are in force
  old_force : T (not (eqb R.base.edition 2) && true)
  old_force = and_i (not (eqb R.base.edition 2)) true old tt

  -- ---- rule 29: a read reads from a vse (rule 19), and from nothing else (rule 18)

  -- the target of an rf edge at a non-atomic place is a read
  rf_read : (a b : ℕ) → a < n → b < n → T (at_plain n ρ b) → T (Rf n ρ a b) → T (read n ρ b)
  rf_read a b la lb p t =
      ⊎_elim
      (λ (u, l). absurd (words.unlock_plain a u (at_plain_lem n ρ base a la (places.at_plain_too a b (rf_place n ρ R a b la lb t) p))))
      (λ (w, r). r)
      (rf_kinds n ρ R a b la lb t)

  reads_vse : (a b : ℕ) → a < n → b < n → T (at_plain n ρ b) → T (Rf n ρ a b) → T (Vse n ρ a b)
  unfolding rules rule19
  reads_vse a b la lb p t =
      let rd : T (read n ρ b) = rf_read a b la lb p t in
      let src : T (some n ρ λ a. Rf n ρ a b) = any_i n (λ a. Rf n ρ a b) a la t in
      let got : T (some n ρ λ a. Vse n ρ a b && Rf n ρ a b) =
      fed (some n ρ λ a. Vse n ρ a b) (some n ρ λ a. Vse n ρ a b && Rf n ρ a b) (some n ρ λ a. Rf n ρ a b)
      (λ u. let e = eqb_refl b in off n ρ base 19 (omega arith) old_force b b lb lb (search (and_i))) src
      in
      let (c, lc, u) = any_e n (λ a. Vse n ρ a b && Rf n ρ a b) got in
      subst (λ (x : ℕ). T (Vse n ρ x b)) (one_source n ρ (off n ρ base 18 (omega arith) tt) c a b lc la lb (and_r (Vse n ρ c b) (Rf n ρ c b) u) t) (and_l (Vse n ρ c b) (Rf n ρ c b) u)

  seen : Holds n ρ 29
  unfolding rules rule29
  seen a b la lb t =
      let f : T (Rf n ρ a b) = search (and_l, and_r) in
      let p : T (at_plain n ρ b) = search (and_l, and_r) in
      T_not (Vse n ρ a b) (search (and_r)) (reads_vse a b la lb p f)

  -- ---- rules 30, 32, 33 and 34: at an atomic place all is seq_cst, and sc decides

  strong_too : (a b : ℕ) → a < n → T (same_place n ρ a b) → T (at_atomic n ρ b) → T (seq_cst n ρ a)
  strong_too a b la s p = strong a la (places.at_atomic_too a b s p)

  -- hb and mo there are part of sc (rules 11 and 12)
  hb_strong : (a b : ℕ) → a < n → b < n → T (same_place n ρ a b) → T (at_atomic n ρ b) → T (Hb n ρ a b) → T (Sc n ρ a b)
  hb_strong a b la lb s p h = hb_sc n ρ R a b la lb (words.seq_cst_sc a (strong_too a b la s p)) (words.seq_cst_sc b (strong b lb p)) h

  mo_strong : (a b : ℕ) → a < n → b < n → T (same_place n ρ a b) → T (at_atomic n ρ b) → T (Mo n ρ a b) → T (Sc n ρ a b)
  mo_strong a b la lb s p m = mo_sc n ρ R a b la lb (strong_too a b la s p) (strong b lb p) m

  ok23 : Holds n ρ 23
  ok23 = off n ρ base 23 (omega arith) old_force

  -- 30: w sc r by rule 23, and r hb w would be r sc w
  not_later : Holds n ρ 30
  unfolding rules rule30
  not_later a b la lb t =
      let f : T (Rf n ρ a b) = search (and_l, and_r) in
      let p : T (at_atomic n ρ b) = search (and_l, and_r) in
      let h : T (Hb n ρ b a) = search (and_r) in
      let s : T (same_place n ρ a b) = rf_place n ρ R a b la lb f in
      sc_one_way n ρ R a b la lb (source_sc n ρ R ok23 a b la lb (strong_too a b la s p) (strong b lb p) f)
      (hb_strong b a lb la (places.place_sym a b s) (places.at_atomic_too a b s p) h)

  -- 32: its first half is rule 23, and its second never applies, since the source of a seq_cst read is seq_cst
  newest : Holds n ρ 32
  unfolding rules rule32
  newest a b la lb t =
      let weak : Bool = Rf n ρ a b && seq_cst n ρ b && not (seq_cst n ρ a) && (some n ρ λ c. write n ρ c && same_place n ρ c b && Hb n ρ a c && Sc n ρ c b) in
      ⊎_elim (ok23 a b la lb)
      (λ u.
      let f : T (Rf n ρ a b) = search (and_l) in
      let qb : T (seq_cst n ρ b) = search (and_l, and_r) in
      let p : T (at_atomic n ρ b) = atomic_place_lem n ρ base b lb (words.seq_cst_atomic b (base.no_fence b lb) qb) in
      T_not (seq_cst n ρ a) (search (and_l, and_r)) (strong_too a b la (rf_place n ρ R a b la lb f) p))
      (or_e (rule23 n ρ a b) weak t)

  -- rule 13
  mo_writes : (a b : ℕ) → a < n → b < n → T (Mo n ρ a b) → T (writes_of n ρ a b)
  mo_writes a b la lb m = and_r (not (eqb b a)) (writes_of n ρ a b) (mo_ends n ρ (off n ρ base 13 (omega arith) tt) a b la lb m)

  -- 33: w hb w' would be w sc w', and w' mo w would be w' sc w
  write_write : Holds n ρ 33
  unfolding rules rule33
  write_write a b la lb t =
      let m : T (Mo n ρ b a) = search (and_r) in
      let w : T (writes_of n ρ b a) = mo_writes b a lb la m in
      let s : T (same_place n ρ b a) = search (and_l, and_r) in
      let p : T (at_atomic n ρ b) = search (and_l, and_r) in
      let h : T (Hb n ρ a b) = search (and_l) in
      sc_one_way n ρ R a b la lb (hb_strong a b la lb (places.place_sym b a s) p h)
      (mo_strong b a lb la s (places.at_atomic_too a b (places.place_sym b a s) p) m)

  -- 34: w' sc w sc r, against rule 23
  write_read : Holds n ρ 34
  unfolding rules rule34
  write_read a b la lb t =
      let f : T (Rf n ρ a b) = search (and_r) in
      let (c, lc, u) = any_e n (λ c. Mo n ρ a c && Hb n ρ c b) (and_l (some n ρ λ c. Mo n ρ a c && Hb n ρ c b) (Rf n ρ a b) t) in
      let m : T (Mo n ρ a c) = and_l (Mo n ρ a c) (Hb n ρ c b) u in
      let h : T (Hb n ρ c b) = and_r (Mo n ρ a c) (Hb n ρ c b) u in
      let w : T (writes_of n ρ a c) = mo_writes a c la lc m in
      let pa : T (at_atomic n ρ a) = search (and_l, and_r) in
      let sac : T (same_place n ρ a c) = search (and_l, and_r) in
      let wc : T (write n ρ c) = search (and_r) in
      let sba : T (same_place n ρ b a) = places.place_sym a b (rf_place n ρ R a b la lb f) in
      let pb : T (at_atomic n ρ b) = places.at_atomic_too b a sba pa in
      let scb : T (same_place n ρ c b) = places.place_sym b c (places.place_trans b a c sba sac) in
      none_between n ρ R ok23 a b c la lb lc (strong a la pa) (strong b lb pb) f wc scb
      (mo_strong a c la lc sac (places.at_atomic_too c b scb pb) m)
      (hb_strong c b lc lb scb pb h)

  pub first_feeds : Feeds n ρ
  first_feeds = record { seen = seen; not_later = not_later; newest = newest; write_write = write_write; write_read = write_read }
