-- hb step by step, and why rule 27 is never the lowest broken: where rules 4 and 9 hold, hb has no cycle.
use Rattle.std.specs.Prelude.{ℕ, ◌<◌, true, ◌&&◌, ◌≡◌, refl, ◌⊎◌, eqb, Option}
use Rattle.std.proofs.Math.Logic.{inl, inr, ⊎_elim}
use Rattle.std.proofs.Common.{arith}
use Rattle.std.proofs.Math.Dec.{T, eqb_refl}
use Rattle.rows.specs.Sets.{Rel, closure}
use Rattle.rows.specs.Laws.Truth.{T_true, true_T, and_l, and_r, and_i, or_e, or_l, or_r, not_both}
use Rattle.rows.proofs.Laws.Quantifiers.{any_e, any_i}
use Rattle.rows.proofs.Laws.Closure.{holds, joins, least_closed}
use Rattle.model.specs.declared.Verdict.TheVariants.{Broken}
use Rattle.model.specs.Candidates.{Candidate}
use Rattle.model.specs.Words.{book_of}
use Rattle.model.specs.Model.{Book, Sb, Ithb, Hb, ◌⨾◌, strict, r, ithb_step, ithb, hb, rules, rule4, rule9, rule27, in_force}
use Rattle.model.specs.Judge.{book, judged_of}
use Rattle.model.specs.Laws.Filled.{Filled, filled_is}
use Rattle.model.specs.Laws.Holds.{Holds, strict_irrefl, strict_trans}
use Rattle.model.proofs.Laws.Verdicts.{broken_first}
use Rattle.model.specs.Laws.Verdicts.{FirstBroken}

-- ---- a step of ithb: r, or sb;r; and paths of such steps

module _ (n : ℕ) (ρ : Book) where
  pub step_e : (a b : ℕ) → T (ithb_step n ρ a b) → T (r n ρ a b) ⊎ ((z : ℕ) × (z < n) × T (Sb n ρ a z) × T (r n ρ z b))
  step_e a b t =
      ⊎_elim inl
      (λ u. let (z, lz, v) = any_e n (λ z. Sb n ρ a z && r n ρ z b) u in inr (z, lz, and_l (Sb n ρ a z) (r n ρ z b) v, and_r (Sb n ρ a z) (r n ρ z b) v))
      (or_e (r n ρ a b) (◌⨾◌ n ρ (Sb n ρ) (r n ρ) a b) t)

  pub sbr_step : (a z b : ℕ) → z < n → T (Sb n ρ a z) → T (r n ρ z b) → T (ithb_step n ρ a b)
  sbr_step a z b lz p q = or_r (r n ρ a b) (◌⨾◌ n ρ (Sb n ρ) (r n ρ) a b) (any_i n (λ z. Sb n ρ a z && r n ρ z b) z lz (and_i (Sb n ρ a z) (r n ρ z b) p q))

  pub r_step : (a b : ℕ) → T (r n ρ a b) → T (ithb_step n ρ a b)
  r_step a b t = or_l (r n ρ a b) (◌⨾◌ n ρ (Sb n ρ) (r n ρ) a b) t

  abbrev pub path : Rel
  path = closure n (ithb_step n ρ)

  pub path_trans : (a b c : ℕ) → b < n → T (path a b) → T (path b c) → T (path a c)
  path_trans a b c lb p q = joins (ithb_step n ρ) n a b c lb p q

  pub one_step : (a b : ℕ) → T (ithb_step n ρ a b) → T (path a b)
  one_step a b t = holds (ithb_step n ρ) n a b t

-- ---- hb is a step of sb, or such a path

module _ (n : ℕ) (ρ : Book) (F : Filled n ρ) where
  pub hb_e : (a b : ℕ) → a < n → b < n → T (Hb n ρ a b) → T (Sb n ρ a b) ⊎ T (path n ρ a b)
  unfolding hb ithb
  hb_e a b la lb t =
      let h : T (hb n ρ a b) = rw F.hb_is at t in
      ⊎_elim inl (λ u. inr (rw F.ithb_is at u)) (or_e (Sb n ρ a b) (Ithb n ρ a b) h)

  pub sb_hb : (a b : ℕ) → a < n → b < n → T (Sb n ρ a b) → T (Hb n ρ a b)
  unfolding hb
  sb_hb a b la lb t = rw F.hb_is (or_l (Sb n ρ a b) (Ithb n ρ a b) t)

  pub path_ithb : (a b : ℕ) → a < n → b < n → T (path n ρ a b) → T (Ithb n ρ a b)
  unfolding ithb
  path_ithb a b la lb t = rw F.ithb_is t

  pub path_hb : (a b : ℕ) → a < n → b < n → T (path n ρ a b) → T (Hb n ρ a b)
  unfolding hb
  path_hb a b la lb t = rw F.hb_is (or_r (Sb n ρ a b) (Ithb n ρ a b) (path_ithb a b la lb t))

  -- rule 9
  pub path_irrefl : Holds n ρ 9 → (a : ℕ) → a < n → T (path n ρ a a) → ⊥
  unfolding rules rule9
  path_irrefl ok9 a l t = ok9 a a l l (and_i (eqb a a) (Ithb n ρ a a) (eqb_refl a) (path_ithb a a l l t))

-- ---- rule 4: sb is a strict order, so a path after a step of sb is a path

module _ (n : ℕ) (ρ : Book) (ok4 : Holds n ρ 4) where
  sb_strict : (a b : ℕ) → a < n → b < n → T (strict n ρ (Sb n ρ) a b) → ⊥
  unfolding rules rule4
  sb_strict a b la lb t = ok4 a b la lb (search (or_l))

  pub sb_irrefl : (a : ℕ) → a < n → T (Sb n ρ a a) → ⊥
  sb_irrefl = strict_irrefl n ρ (Sb n ρ) sb_strict

  pub sb_trans : (a b c : ℕ) → a < n → b < n → c < n → T (Sb n ρ a b) → T (Sb n ρ b c) → T (Sb n ρ a c)
  sb_trans = strict_trans n ρ (Sb n ρ) sb_strict

  pub sb_path : (a b c : ℕ) → a < n → b < n → c < n → T (Sb n ρ a b) → T (path n ρ b c) → T (path n ρ a c)
  sb_path a b c la lb lc p q =
      (least_closed (ithb_step n ρ) n (λ b c. ((a : ℕ) → a < n → T (Sb n ρ a b) → T (path n ρ a c)) × T (path n ρ b c))
      (λ b c lb lc t. (
        λ a la s. one_step n ρ a c (⊎_elim (λ u. sbr_step n ρ a b c lb s u) (λ (z, lz, u, v). sbr_step n ρ a z c lz (sb_trans a b z la lb lz s u) v) (step_e n ρ b c t)),
        one_step n ρ b c t,
      ))
      (λ b c e lb lc le (f, p) (g, q). (λ a la s. path_trans n ρ a c e lc (f a la s) q, path_trans n ρ b c e lc p q))
      b c lb lc q).0 a la p

  -- ---- a path of hb steps is one of sb, or one of ithb, or that and one of sb

  record Leads (a b : ℕ) : Type 0 where
    by : T (Sb n ρ a b) ⊎ (T (path n ρ a b) ⊎ ((z : ℕ) × (z < n) × T (path n ρ a z) × T (Sb n ρ z b)))

  abbrev by_path : {a b : ℕ} → T (path n ρ a b) → Leads a b
  by_path t = record { by = inr (inl t) }

  abbrev by_both : {a b : ℕ} (z : ℕ) → z < n → T (path n ρ a z) → T (Sb n ρ z b) → Leads a b
  by_both z lz p q = record { by = inr (inr (z, lz, p, q)) }

  -- after a step of sb
  sb_leads : (a b c : ℕ) → a < n → b < n → c < n → T (Sb n ρ a b) → Leads b c → Leads a c
  sb_leads a b c la lb lc s h =
      ⊎_elim
      (λ (t : T (Sb n ρ b c)). record { by = inl (sb_trans a b c la lb lc s t) })
      (⊎_elim
      (λ (p : T (path n ρ b c)). by_path (sb_path a b c la lb lc s p))
      (λ (z, lz, p, q). by_both z lz (sb_path a b z la lb lz s p) q))
      h.by

  -- after a path
  path_leads : (a b c : ℕ) → b < n → T (path n ρ a b) → Leads b c → Leads a c
  path_leads a b c lb p h =
      ⊎_elim
      (λ (t : T (Sb n ρ b c)). by_both b lb p t)
      (⊎_elim
      (λ (q : T (path n ρ b c)). by_path (path_trans n ρ a b c lb p q))
      (λ (z, lz, q, s). by_both z lz (path_trans n ρ a b z lb p q) s))
      h.by

  leads_trans : (a b c : ℕ) → a < n → b < n → c < n → Leads a b → Leads b c → Leads a c
  leads_trans a b c la lb lc g h =
      ⊎_elim
      (λ (s : T (Sb n ρ a b)). sb_leads a b c la lb lc s h)
      (⊎_elim
      (λ (p : T (path n ρ a b)). path_leads a b c lb p h)
      (λ (z, lz, p, s). path_leads a z c lz p (sb_leads z b c lz lb lc s h)))
      g.by

  -- ---- none leads back

  module _ (F : Filled n ρ) (ok9 : Holds n ρ 9) where
    hb_leads : (a b : ℕ) → a < n → b < n → T (closure n (Hb n ρ) a b) → Leads a b
    hb_leads = least_closed (Hb n ρ) n Leads (λ a b la lb t. ⊎_elim (λ (s : T (Sb n ρ a b)). record { by = inl s }) by_path (hb_e n ρ F a b la lb t)) leads_trans

    -- sb has no a→a (rule 4), ithb has no a→a (rule 9), and sb after ithb and then ithb again is ithb
    unreturning : (a : ℕ) → a < n → Leads a a → ⊥
    unreturning a la h =
        ⊎_elim (sb_irrefl a la)
        (⊎_elim
        (path_irrefl n ρ F ok9 a la)
        (λ (z, lz, p, s). path_irrefl n ρ F ok9 z lz (sb_path z a z lz la lz s p)))
        h.by

    pub acyclic : Holds n ρ 27
    unfolding rules rule27
    acyclic a b la lb t = unreturning a la (hb_leads a a la la (and_r (eqb b a) (closure n (Hb n ρ) a a) t))

-- Rule 27 is never the lowest broken.
pub never_27 : (X : Candidate) (a b : ℕ) (m : Option ℕ) → (judged_of X).verdict ≡ Broken 27 a b m → ⊥
unfolding judged_of
never_27 X a b m e =
    let f = broken_first X.edition X.n (book X) 27 a b m e in
    acyclic X.n (book X) (below f 4 (omega arith) refl) (filled_is X.n (book_of X)) (below f 9 (omega arith) refl) a b f.pair.row_lt f.pair.column_lt (true_T f.pair.hit)
  where
    below : FirstBroken X.edition X.n (book X) 27 a b m → (k : ℕ) → k < 27 → in_force X.edition k ≡ true → Holds X.n (book X) k
    below f k l force x y lx ly t = not_both (T_true _ t) (f.lower k l force x y lx ly)
