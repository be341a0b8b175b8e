-- What happens before b is settled when b is issued, or comes before b in its thread.
use Rattle.std.specs.Prelude.{ℕ, ◌<◌, ◌≤◌, ◌&&◌, ◌||◌, not, ◌≡◌, refl, ◌⊎◌}
use Rattle.std.proofs.Math.Bool.{Bool}
use Rattle.std.proofs.Common.{ap, ◌∙◌, le_refl, arith, ne_eqb}
use Rattle.std.proofs.Math.Logic.{inl, inr, ⊎_elim}
use Rattle.std.proofs.Math.Dec.{T, T_not}
use Rattle.rows.specs.Laws.Truth.{and_l, and_r, and_i, or_e, or_l, or_r, order3, eq_or_ne, top}
use Rattle.rows.proofs.Laws.Quantifiers.{any_e, any_i}
use Rattle.rows.proofs.Laws.Closure.{least_closed}
use Rattle.model.specs.Model.{Book, Sb, Asw, Rf, Mo, Sw, Dob, Hb, some, ◌⨾◌, element, hrs, rs, sw_start, sw_mutex, sw_atomic, sw_fences, sw_fence_atomic, sw_atomic_fence, sw, dob, r, ithb_step, write, rmw, same_thread}
use Rattle.model.specs.Laws.Filled.{Filled}
use Rattle.model.proofs.Laws.Cycles.{step_e, sbr_step, r_step, path, one_step, hb_e, path_hb}
use Rattle.console.specs.Laws.Timed.{Timed}

-- a disjunction by its cases
pub either : {C : Type 0} (p q : Bool) → (T p → C) → (T q → C) → T (p || q) → C
either p q f g t = ⊎_elim f g (or_e p q t)

module _ (n : ℕ) (ρ : Book) (F : Filled n ρ) (K : Timed n ρ) where
  -- ---- in one thread

  -- a comes before b in its thread
  abbrev pub Ahead : ℕ → ℕ → Type 0
  Ahead a b = (K.thread a ≡ K.thread b) × (a < b)

  -- a is b, or comes before b in its thread
  abbrev pub Upto : ℕ → ℕ → Type 0
  Upto a b = (K.thread a ≡ K.thread b) × (a ≤ b)

  -- an action is up to itself
  upto_self : (a : ℕ) → Upto a a
  upto_self a = (refl, le_refl a)

  -- the two cases, by number and by sb
  upto_e : (a b : ℕ) → Upto a b → (a ≡ b) ⊎ Ahead a b
  upto_e a b (own, l) = ⊎_elim inl (λ h. inr (own, h)) (top a b (omega arith))

  upto_sb : (a b : ℕ) → b < n → Upto a b → (a ≡ b) ⊎ T (Sb n ρ a b)
  upto_sb a b lb u = ⊎_elim inl (λ (own, l). inr (K.sb_i a b lb own l)) (upto_e a b u)

  -- sb stays in a thread, and rises there
  sb_ahead : (a b : ℕ) → a < n → b < n → T (Sb n ρ a b) → Ahead a b
  sb_ahead a b la lb t = (K.sb_thread a b la lb t, K.sb_up a b la lb t)

  -- up to a write, all is settled by then
  upto_write : (c a : ℕ) → a < n → T (write n ρ a) → Upto c a → K.settled c ≤ K.settled a
  upto_write c a la w u =
      ⊎_elim
      (λ (e : c ≡ a). rw e (omega arith))
      (λ (own, l). omega (arith, K.fifo c a l la own w))
      (upto_e c a u)

  -- ---- late: b was issued when all was settled that is in a's thread up to a

  abbrev Late : ℕ → ℕ → Type 0
  Late a b = (c : ℕ) → Upto c a → K.settled c < K.issued b

  -- so a itself was settled
  late_self : (a b : ℕ) → Late a b → K.settled a < K.issued b
  late_self a b h = h a (upto_self a)

  -- what is issued late is settled no earlier, so late chains
  late_trans : (a c b : ℕ) → a < n → c < n → b < n → Late a c → Late c b → Late a b
  late_trans a c b la lc lb p q z u = omega (arith, p z u, K.late c lc, late_self c b q)

  -- ---- sw is late

  -- a member of the sequence that a heads: a itself, or after a in mo, and of a's thread or an RMW
  hrs_e : (a c : ℕ) → T (hrs n ρ a c) → (c ≡ a) ⊎ (T (Mo n ρ a c) × T (element n ρ a c))
  unfolding hrs
  hrs_e a c t = ⊎_elim inl (λ ne. let u = rw (ne_eqb c a ne) at t in inr (search (and_l, and_r), search (and_l, and_r))) (eq_or_ne c a)

  -- a read of another thread takes one of the sequence that a write heads: the head was in memory by then
  head_late : (a c b : ℕ) → a < n → c < n → b < n → T (hrs n ρ a c) → T (Rf n ρ c b) → (K.thread a ≡ K.thread b → ⊥) → K.settled a < K.issued b
  head_late a c b la lc lb h f ne =
      ⊎_elim
      (λ (e : c ≡ a). ⊎_elim (λ l. rw e at l) (λ (own, l). absurd (ne (rw e at own))) (K.rf_seen c b lc lb f))
      (λ (m, el).
      let up : K.settled a < K.settled c = K.mo_up a c la lc m in
      ⊎_elim
      (λ (l : K.settled c < K.issued b). omega arith)
      (λ (own, l). either (same_thread n ρ a c) (rmw n ρ c)
      (λ q. absurd (ne (K.thread_e a c la lc q ∙ own)))
      (λ q. omega (arith, K.at_once c lc (K.rmw_reads c lc q), K.rises c b l lb))
      el)
      (K.rf_seen c b lc lb f))
      (hrs_e a c h)

  -- release and acquire: all up to the head is settled with it
  atomic_late : (a b : ℕ) → a < n → b < n → T (sw_atomic n ρ a b) → Late a b
  unfolding rs
  atomic_late a b la lb t c u =
      let apart : T (not (same_thread n ρ a b)) = search (and_l, and_r) in
      let via : T (some n ρ λ z. rs n ρ a z && Rf n ρ z b) = search (and_r) in
      let (z, lz, v) = any_e n _ via in
      let s = head_late a z b la lz lb (search (and_l, and_r)) (search (and_r)) (λ e. T_not (same_thread n ρ a b) apart (K.thread_i a b la lb e)) in
      omega (arith, upto_write c a la (K.release_writes a la (search (and_l, and_r))) u)

  -- there is no unlock and no fence, so sw is asw, or release and acquire
  sw_late : (a b : ℕ) → a < n → b < n → T (Sw n ρ a b) → Late a b
  unfolding sw
  sw_late a b la lb t =
      let start : Bool = sw_start n ρ a b in
      let mutex : Bool = sw_mutex n ρ a b in
      let atomics : Bool = sw_atomic n ρ a b in
      let fences : Bool = sw_fences n ρ a b in
      let from_fence : Bool = sw_fence_atomic n ρ a b in
      let to_fence : Bool = sw_atomic_fence n ρ a b in
      either (start || mutex || atomics || fences || from_fence) to_fence
      (either (start || mutex || atomics || fences) from_fence
      (either (start || mutex || atomics) fences
      (either (start || mutex) atomics
      (either start mutex
      (λ u c (own, l). K.started a b c la lb l own u)
      (λ u. absurd (K.no_unlock a la (search (and_l, and_r)))))
      (atomic_late a b la lb))
      (λ u. absurd (K.no_fence a la (search (and_l, and_r)))))
      (λ u. absurd (K.no_fence a la (search (and_l, and_r)))))
      (λ u. absurd (K.no_fence b lb (search (and_l, and_r))))
      (rw F.sw_is at t)

  -- ---- so ithb is late, and hb is late or stays in a thread

  -- there is no consume, so no dob
  no_dob : (a b : ℕ) → a < n → b < n → T (Dob n ρ a b) → ⊥
  unfolding dob
  no_dob a b la lb t =
      let q : T (dob n ρ a b) = rw F.dob_is at t in
      let (c, lc, p) = any_e n _ q in
      K.no_consume c lc (search (and_l, and_r))

  -- what is sequenced after a late action is late
  r_late : (a b : ℕ) → a < n → b < n → T (r n ρ a b) → Late a b
  r_late a b la lb t =
      either (Sw n ρ a b || Dob n ρ a b) (◌⨾◌ n ρ (Sw n ρ) (Sb n ρ) a b)
      (either (Sw n ρ a b) (Dob n ρ a b) (sw_late a b la lb) (λ u. absurd (no_dob a b la lb u)))
      (λ u c v.
      let (z, lz, w) = any_e n _ u in
      omega (arith, sw_late a z la lz (and_l (Sw n ρ a z) (Sb n ρ z b) w) c v, K.rises z b (K.sb_up z b lz lb (and_r (Sw n ρ a z) (Sb n ρ z b) w)) lb))
      t

  -- and what is late after z is late after all that is sequenced before z
  step_late : (a b : ℕ) → a < n → b < n → T (ithb_step n ρ a b) → Late a b
  step_late a b la lb t =
      ⊎_elim
      (r_late a b la lb)
      (λ (z, lz, s, u) c (own, l). let (onward, up) = sb_ahead a z la lz s in r_late z b lz lb u c (own ∙ onward, omega arith))
      (step_e n ρ a b t)

  path_late : (a b : ℕ) → a < n → b < n → T (path n ρ a b) → Late a b
  path_late = least_closed (ithb_step n ρ) n Late step_late late_trans

  hb_late : (a b : ℕ) → a < n → b < n → T (Hb n ρ a b) → Ahead a b ⊎ Late a b
  hb_late a b la lb t = ⊎_elim (λ s. inl (sb_ahead a b la lb s)) (λ p. inr (path_late a b la lb p)) (hb_e n ρ F a b la lb t)

  -- so hb goes by the steps at which actions were issued,
  hb_issued : (a b : ℕ) → a < n → b < n → T (Hb n ρ a b) → K.issued a < K.issued b
  hb_issued a b la lb t = ⊎_elim (λ (own, l). K.rises a b l lb) (λ p. omega (arith, late_self a b p, K.late a la)) (hb_late a b la lb t)

  -- and by their numbers
  pub hb_up : (a b : ℕ) → a < n → b < n → T (Hb n ρ a b) → a < b
  hb_up a b la lb t =
      let first : K.issued a < K.issued b = hb_issued a b la lb t in
      ⊎_elim (λ l. l)
      (⊎_elim
      (λ (e : a ≡ b). let same : K.issued a ≡ K.issued b = ap K.issued e in absurd (omega arith))
      (λ (l : b < a). absurd (omega (arith, K.rises b a l la))))
      (order3 a b)

  -- ---- seen: w was settled when r was issued, or comes before r in its thread

  abbrev pub Seen : ℕ → ℕ → Type 0
  Seen w r = (K.settled w < K.issued r) ⊎ Ahead w r

  -- none sees itself
  pub unseen : (a : ℕ) → a < n → Seen a a → ⊥
  unseen a la s = ⊎_elim (λ (l : K.settled a < K.issued a). omega (arith, K.late a la)) (λ (own, l). omega arith) s

  -- what happens before r is seen by it,
  pub hb_seen : (w r : ℕ) → w < n → r < n → T (Hb n ρ w r) → Seen w r
  hb_seen w r lw lr t = ⊎_elim inr (λ p. inl (late_self w r p)) (hb_late w r lw lr t)

  -- what one sees, a later one sees,
  pub seen_on : (w r r' : ℕ) → r < n → r' < n → Seen w r → T (Hb n ρ r r') → Seen w r'
  seen_on w r r' lr lr' s h =
      ⊎_elim
      (λ (l : K.settled w < K.issued r). inl (omega (arith, hb_issued r r' lr lr' h)))
      (λ (own, l). ⊎_elim (λ (own', l'). inr (own ∙ own', omega arith)) (λ p. inl (p w (own, omega arith))) (hb_late r r' lr lr' h))
      s

  -- and what a write sees is settled before it
  pub seen_settled : (w b : ℕ) → b < n → T (write n ρ b) → Seen w b → K.settled w < K.settled b
  seen_settled w b lb t s = ⊎_elim (λ (l : K.settled w < K.issued b). omega (arith, K.late b lb)) (λ (own, l). K.fifo w b l lb own t) s

  -- ---- the other way: w up to y, y asw z and z up to b make w hb b

  start_r : (y z b : ℕ) → y < n → z < n → b < n → T (Asw n ρ y z) → Upto z b → T (r n ρ y b)
  unfolding sw
  start_r y z b ly lz lb s u =
      let t : T (Sw n ρ y z) = rw F.sw_is (search (or_l)) in
      ⊎_elim
      (λ (e : z ≡ b). let t' : T (Sw n ρ y b) = rw e at t in search (or_l))
      (λ v. let both : T (◌⨾◌ n ρ (Sw n ρ) (Sb n ρ) y b) = any_i n (λ x. Sw n ρ y x && Sb n ρ x b) z lz (search (and_i)) in search (or_r))
      (upto_sb z b lb u)

  pub start_hb : (w y z b : ℕ) → y < n → b < n → Upto w y → T (Asw n ρ y z) → Upto z b → T (Hb n ρ w b)
  start_hb w y z b ly lb u s v =
      let t : T (r n ρ y b) = start_r y z b ly (omega (arith, v.1)) lb s v in
      path_hb n ρ F w b (omega (arith, u.1)) lb
      (one_step n ρ w b (⊎_elim (λ (e : w ≡ y). r_step n ρ w b (rw e t)) (λ x. sbr_step n ρ w y b ly x t) (upto_sb w y ly u)))
