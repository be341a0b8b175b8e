-- The rules of edition 2 about hb and the source of a read hold where actions have such times: 9, 28, 30, 31, 33 to 36.
use Rattle.std.specs.Prelude.{ℕ, zero, suc, ◌<◌, ◌≤◌, Bool, true, false, ◌&&◌, ◌≡◌, eqb}
use Rattle.std.proofs.Math.Bool.{not}
use Rattle.std.proofs.Common.{sym, ◌∙◌, subst, inl, ⊎_elim, le_refl, T_not}
use native.Mathlib.Omega.{arith}
use Rattle.std.proofs.Math.Dec.{T, not_T}
use Rattle.rows.specs.Sets.{Set}
use Rattle.rows.specs.Laws.Truth.{and_l, and_r, and_i, dec, lt_or_le, top}
use Rattle.rows.proofs.Laws.Quantifiers.{any_e, any_i}
use Rattle.model.specs.Model.{Book, Rf, Mo, Ithb, Hb, Vse, differ, some, ◌⨾◌, immediate, load, ithb, vse, plain, write, read, rmw, atomic_load, same_place, rules, rule9, rule28, rule30, rule31, rule33, rule34, rule35, rule36}
use Rattle.model.specs.Laws.Filled.{Filled}
use Rattle.model.specs.Laws.Holds.{Holds}
use Rattle.model.proofs.Laws.Cycles.{path_hb}
use Rattle.console.specs.Laws.Timed.{Timed}
use Rattle.console.specs.Laws.Late.{either, Seen, hb_up, unseen, hb_seen, seen_on, seen_settled, start_hb}

-- the greatest number below k at which f holds
greatest : (f : Set) (k w : ℕ) → w < k → T (f w) → (g : ℕ) × (g < k) × T (f g) × ((c : ℕ) → c < k → T (f c) → c ≤ g)
greatest f zero w l t = absurd (omega arith)
greatest f (suc k) w l t =
    ⊎_elim
    (λ (p : T (f k)). (k, le_refl (suc k), p, λ c lc q. omega arith))
    (λ (p : T (not (f k))).
    let lower : (c : ℕ) → c < suc k → T (f c) → c < k =
    λ c lc q. ⊎_elim (λ (e : c ≡ k). absurd (T_not (f k) p (subst (λ (x : ℕ). T (f x)) e q))) (λ h. h) (top c k lc) in
    let (g, lg, tg, mg) = greatest f k w (lower w l t) t in
    (g, omega arith, tg, λ c lc q. mg c (lower c lc q) q))
    (dec (f k))

-- two that follow from one another do not differ
differ_same : (p q : Bool) → (T p → T q) → (T q → T p) → T (differ p q) → ⊥
differ_same true true f g t = t
differ_same true false f g t = f tt
differ_same false true f g t = g tt
differ_same false false f g t = t

module _ (n : ℕ) (ρ : Book) (F : Filled n ρ) (K : Timed n ρ) where
  -- ---- 9: numbers rise along hb

  pub ok9 : Holds n ρ 9
  unfolding rules rule9 ithb
  ok9 a b la lb t =
      let i : T (Ithb n ρ a a) = search (and_r) in
      omega (arith, hb_up n ρ F K a a la la (path_hb n ρ F a a la la (rw F.ithb_is at i)))

  -- ---- 30 and 33 to 36: what is seen, and in which order it was settled

  -- a read does not see what follows its source in mo
  newest : (w c r : ℕ) → w < n → c < n → r < n → T (Rf n ρ w r) → T (Mo n ρ w c) → Seen n ρ F K c r → ⊥
  newest w c r lw lc lr f m s =
      omega (arith, K.mo_up w c lw lc m, K.rf_last w r c lw lr lc f (K.mo_to w c lw lc m) (sym (K.mo_place w c lw lc m) ∙ K.rf_place w r lw lr f) s)

  -- a write does not see what follows it in mo
  behind : (w c : ℕ) → w < n → c < n → T (Mo n ρ w c) → Seen n ρ F K c w → ⊥
  behind w c lw lc m s = omega (arith, K.mo_up w c lw lc m, seen_settled n ρ F K c w lw (K.mo_from w c lw lc m) s)

  -- a source that came after its read would see itself
  pub ok30 : Holds n ρ 30
  unfolding rules rule30
  ok30 w r lw lr t =
      let f : T (Rf n ρ w r) = search (and_l) in
      unseen n ρ F K w lw (seen_on n ρ F K w r w lr lw (K.rf_seen w r lw lr f) (search (and_r)))

  pub ok33 : Holds n ρ 33
  unfolding rules rule33
  ok33 w w' lw lw' t = behind w' w lw' lw (search (and_r)) (hb_seen n ρ F K w w' lw lw' (search (and_l)))

  pub ok34 : Holds n ρ 34
  unfolding rules rule34
  ok34 w' r lw' lr t =
      let via : T (some n ρ λ w. Mo n ρ w' w && Hb n ρ w r) = search (and_l) in
      let (w, lw, v) = any_e n _ via in
      newest w' w r lw' lw lr (search (and_r)) (search (and_l)) (hb_seen n ρ F K w r lw lr (search (and_r)))

  pub ok35 : Holds n ρ 35
  unfolding rules rule35
  ok35 w' r lw' lr t =
      let via : T (some n ρ λ w. Hb n ρ r w && Mo n ρ w w') = search (and_l) in
      let (w, lw, v) = any_e n _ via in
      let f : T (Rf n ρ w' r) = search (and_r) in
      behind w w' lw lw' (search (and_r)) (seen_on n ρ F K w' r w lr lw (K.rf_seen w' r lw' lr f) (search (and_l)))

  pub ok36 : Holds n ρ 36
  unfolding rules rule36
  ok36 r r' lr lr' t =
      let (w, lw, u) = any_e n _ t in
      let (w', lw', v) = any_e n _ u in
      let f : T (Rf n ρ w r) = search (and_l, and_r) in
      newest w' w r' lw' lw lr' (search (and_r)) (search (and_l, and_r)) (seen_on n ρ F K w r r' lr lr' (K.rf_seen w r lw lr f) (search (and_l, and_r)))

  -- ---- 28: every load has a vse and a source

  -- a write of b's place that happens before b
  earlier : ℕ → Set
  earlier b w = write n ρ w && same_place n ρ w b && Hb n ρ w b

  -- of those, one of greatest number is a vse
  has_vse : (b w : ℕ) → b < n → w < n → T (read n ρ b) → T (earlier b w) → T (some n ρ λ a. Vse n ρ a b)
  unfolding vse earlier
  has_vse b w lb lw rd first =
      let (g, lg, tg, mg) = greatest (earlier b) n w lw first in
      let same : T (same_place n ρ g b) = search (and_l, and_r) in
      let between : Set = λ c. write n ρ c && same_place n ρ g c && not (eqb c g) && not (eqb c b) && Hb n ρ g c && Hb n ρ c b in
      let none : T (not (some n ρ between)) = not_T (some n ρ between) (λ u.
      let (c, lc, v) = any_e n between u in
      let wr : T (write n ρ c) = search (and_l, and_r) depth 9 in
      let same' : T (same_place n ρ g c) = search (and_l, and_r) depth 9 in
      let up : T (Hb n ρ g c) = search (and_l, and_r) in
      let on : T (Hb n ρ c b) = search (and_r) in
      let pl : T (same_place n ρ c b) = K.place_i c b lc lb (sym (K.place_e g c lg lc same') ∙ K.place_e g b lg lb same) in
      omega (arith, mg c lc (search (and_i)), hb_up n ρ F K g c lg lc up))
      in
      let v : T (vse n ρ g b) = search (and_l, and_r, and_i) in
      any_i n (λ a. Vse n ρ a b) g lg (rw F.vse_is v)

  pub ok28 : Holds n ρ 28
  unfolding rules rule28 earlier
  ok28 b b' lb lb' t =
      let u : T (load n ρ b) = search (and_l, and_r) in
      let ld : T (atomic_load n ρ b) = either (atomic_load n ρ b) (plain n ρ b && read n ρ b) (λ v. v) (λ v. absurd (K.no_plain b lb (search (and_l)))) u in
      let rd : T (read n ρ b) = K.load_reads b lb ld in
      let (w, y, z, lwy, ly, lzb, wr, pl, own, s, own') = K.first b lb ld in
      let lw : w < n = omega arith in
      let h : T (Hb n ρ w b) = start_hb n ρ F K w y z b ly lb (own, lwy) s (own', lzb) in
      let same : T (same_place n ρ w b) = K.place_i w b lw lb pl in
      let fed : T (some n ρ λ a. Rf n ρ a b) = let (a, la, f) = K.rf_some b w lb lw rd wr pl (hb_seen n ρ F K w b lw lb h) in any_i n (λ a. Rf n ρ a b) a la f in
      let seen : T (some n ρ λ a. Vse n ρ a b) = has_vse b w lb lw rd (search (and_i)) in
      differ_same (some n ρ λ a. Rf n ρ a b) (some n ρ λ a. Vse n ρ a b) (λ _. seen) (λ _. fed) (search (and_r))

  -- ---- 31: an RMW sees just what is settled before it

  rmw_sees : (w b : ℕ) → b < n → T (rmw n ρ b) → K.settled w < K.settled b → Seen n ρ F K w b
  rmw_sees w b lb t l = inl (omega (arith, K.at_once b lb (K.rmw_reads b lb t)))

  -- its source is before it in mo,
  rf_mo : (w b : ℕ) → w < n → b < n → T (rmw n ρ b) → T (Rf n ρ w b) → T (Mo n ρ w b)
  rf_mo w b lw lb t f =
      let wr : T (write n ρ b) = K.rmw_writes b lb t in
      K.mo_i w b lw lb (K.rf_from w b lw lb f) wr (K.rf_place w b lw lb f) (seen_settled n ρ F K w b lb wr (K.rf_seen w b lw lb f))

  -- with none between,
  rf_last : (w b : ℕ) → w < n → b < n → T (rmw n ρ b) → T (Rf n ρ w b) → T (immediate n ρ (Mo n ρ) w b)
  rf_last w b lw lb t f =
      let m : T (Mo n ρ w b) = rf_mo w b lw lb t f in
      let none : T (not (◌⨾◌ n ρ (Mo n ρ) (Mo n ρ) w b)) = not_T (◌⨾◌ n ρ (Mo n ρ) (Mo n ρ) w b) (λ u.
      let (c, lc, v) = any_e n _ u in
      let on : T (Mo n ρ c b) = search (and_r) in
      newest w c b lw lc lb f (search (and_l)) (rmw_sees c b lb t (K.mo_up c b lc lb on)))
      in
      search (and_i)

  -- and its immediate predecessor is its source: it has one, and that is no other, for it is settled no earlier and is not between
  last_rf : (w b : ℕ) → w < n → b < n → T (rmw n ρ b) → T (immediate n ρ (Mo n ρ) w b) → T (Rf n ρ w b)
  last_rf w b lw lb t i =
      let m : T (Mo n ρ w b) = search (and_l) in
      let wr = K.mo_from w b lw lb m in
      let pl = K.mo_place w b lw lb m in
      let seen : Seen n ρ F K w b = rmw_sees w b lb t (K.mo_up w b lw lb m) in
      let (a, la, f) = K.rf_some b w lb lw (K.rmw_reads b lb t) wr pl seen in
      let le : K.settled w ≤ K.settled a = K.rf_last a b w la lb lw f wr pl seen in
      let wa = K.rf_from a b la lb f in
      ⊎_elim
      (λ (l : K.settled w < K.settled a).
      let to : T (Mo n ρ w a) = K.mo_i w a lw la wr wa (pl ∙ sym (K.rf_place a b la lb f)) l in
      let from : T (Mo n ρ a b) = rf_mo a b la lb t f in
      absurd (T_not (◌⨾◌ n ρ (Mo n ρ) (Mo n ρ) w b) (search (and_r)) (any_i n (λ z. Mo n ρ w z && Mo n ρ z b) a la (search (and_i)))))
      (λ (l : K.settled a ≤ K.settled w). subst (λ (x : ℕ). T (Rf n ρ x b)) (K.apart a w la lw wa wr (omega arith)) f)
      (lt_or_le (K.settled w) (K.settled a))

  pub ok31 : Holds n ρ 31
  unfolding rules rule31
  ok31 w b lw lb t =
      let m : T (rmw n ρ b) = search (and_l) in
      differ_same (Rf n ρ w b) (immediate n ρ (Mo n ρ) w b) (rf_last w b lw lb m) (last_rf w b lw lb m) (search (and_r))
