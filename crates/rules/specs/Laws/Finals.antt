-- The rows of rules 28 and 31 to 36, as the code works them out, are those of the rules. (Those of 29 and 30 are the rules as they stand.)
use Rattle.std.specs.Prelude.{ℕ, ◌≤◌, ◌<◌, false, ◌&&◌, ◌||◌, ◌≡◌, refl, ltb}
use Rattle.std.proofs.Math.Bool.{Bool, true, not, and-true, and_comm, and_assoc}
use Rattle.std.proofs.Math.Path.{sym, ap, ap₂, subst, fun_ext}
use Rattle.std.proofs.Common.{◌∙◌, lt_of_lt_of_le}
use Rattle.std.proofs.Math.Logic.{⊎_elim}
use native.Mathlib.Omega.{arith}
use Rattle.std.proofs.Math.Dec.{eqb}
use borrow.Author.Tests.{lt-ltb, eqb-true, eq-eqb}
use Rattle.rows.specs.Sets.{Set, any, least, both, either, less, when, without, before, image, converse}
use Rattle.rows.specs.Numbers.{size}
use Rattle.rows.specs.Laws.Truth.{true_T, not_both, same, lt_or_le}
use Rattle.rows.proofs.Laws.Quantifiers.{any_ext, any_before, least_is}
use Rattle.rows.specs.Laws.Sets.{before_ext, before_either}
use Rattle.rows.proofs.Laws.Joins.{asked, image_full, any_single, prenex}
use Rattle.model.specs.Model.{Book, Rf, Sc, Mo, Hb, Vse, read, write, plain, rmw, seq_cst, atomic_load, same_place, load, one, differ, writes_of, rule23, rule28, rule31, rule32, rule33, rule34, rule35, rule36}
use Rattle.desk.specs.Notes.{Noted, notes}
use Rattle.desk.specs.Laws.Notes.{noted_at}
use Rattle.rules.specs.Promises.{Settled}

pub differ_by : (s t : Set) → either (less s t) (less t s) ≡ λ b. differ (s b) (t b)
differ_by s t = fun_ext λ b. ap (λ (p : Bool). (s b && not (t b)) || p) (and_comm (t b) (not (s b)))

-- where neither p nor q holds, p and a part of q don't differ
differ_in : (m p q r : Bool) → ((m && (p || q)) && differ p (q && r)) ≡ (m && differ p (q && r))
differ_in false p q r = refl
differ_in true true q r = refl
differ_in true false true r = refl
differ_in true false false r = refl

module _ (n : ℕ) (ρ : Book) where
  pub earlier_by : Settled n ρ → (a : ℕ) → a < n → before (less (without (writes_of n ρ a) a) (Mo n ρ a)) n ≡ before (converse (Mo n ρ) a) n
  earlier_by settled a la = before_ext n _ (converse (Mo n ρ) a) λ b lb. sym (settled.earlier a b la lb)

  pub rule33_by : (w : ℕ) → before (both (Hb n ρ w) (before (converse (Mo n ρ) w) n)) n ≡ before (rule33 n ρ w) n
  unfolding rule33
  rule33_by w = before_ext n (both (Hb n ρ w) (before (converse (Mo n ρ) w) n)) (rule33 n ρ w) λ b l. rw (lt-ltb b n l, and-true (Mo n ρ b w))

  module _ (h : n ≤ size) where
    pub rule28_by :
        let all : Set = λ c. ltb c size in
        rule28 n ρ ≡ one n ρ (both (either (atomic_load n ρ) (both (plain n ρ) (read n ρ))) (λ b. differ (image n all (Rf n ρ) b) (image n all (Vse n ρ) b)))
    unfolding rule28
    rule28_by = sym (ap₂ (λ (fed seen : Set). one n ρ (λ b. load n ρ b && differ (fed b) (seen b))) (image_full n size true (Rf n ρ) h) (image_full n size true (Vse n ρ) h))

    pub rule31_by : (w : ℕ) →
        let b : Set = both (rmw n ρ) (either (Rf n ρ w) (Mo n ρ w)) in
        before (both b (λ c. differ (Rf n ρ w c) (less (Mo n ρ w) (image n (when (not (not (any size b))) (Mo n ρ w)) (Mo n ρ)) c))) n ≡ before (rule31 n ρ w) n
    unfolding rule31
    rule31_by w =
        asked n size (both (rmw n ρ) (either (Rf n ρ w) (Mo n ρ w))) (λ p c. differ (Rf n ρ w c) (less (Mo n ρ w) (image n (when p (Mo n ρ w)) (Mo n ρ)) c)) (rule31 n ρ w) h
        λ b l. differ_in (rmw n ρ b) (Rf n ρ w b) (Mo n ρ w b) (not (image n (Mo n ρ w) (Mo n ρ) b))

    pub rule32_by : (w : ℕ) (half : Set) → before half n ≡ before (rule23 n ρ w) n →
        let r : Set = when (not (seq_cst n ρ w)) (both (Rf n ρ w) (seq_cst n ρ)) in
        before (either half (both r (image n (when (not (not (any size r))) (both (Hb n ρ w) (write n ρ))) (λ c. both (same_place n ρ c) (Sc n ρ c))))) n ≡ before (rule32 n ρ w) n
    unfolding rule32
    rule32_by w half is_half =
        let r : Set = when (not (seq_cst n ρ w)) (both (Rf n ρ w) (seq_cst n ρ)) in
        let ask : Bool → Set = λ p. image n (when p (both (Hb n ρ w) (write n ρ))) (λ c. both (same_place n ρ c) (Sc n ρ c)) in
        let stale : Set = λ b. Rf n ρ w b && seq_cst n ρ b && not (seq_cst n ρ w) && any n λ c. write n ρ c && same_place n ρ c b && Hb n ρ w c && Sc n ρ c b in
        before_either n half (both r (ask (not (not (any size r))))) (rule23 n ρ w) stale is_half (asked n size r ask stale h λ b l. simp prenex)

    pub rule34_by : (w : ℕ) → before (both (Rf n ρ w) (image n (when (not (not (any size (Rf n ρ w)))) (Mo n ρ w)) (Hb n ρ))) n ≡ before (rule34 n ρ w) n
    unfolding rule34
    rule34_by w =
        asked n size (Rf n ρ w) (λ p. image n (when p (Mo n ρ w)) (Hb n ρ)) (rule34 n ρ w) h
        λ r l. and_comm (Rf n ρ w r) (image n (Mo n ρ w) (Hb n ρ) r)

    pub rule35_by : (w : ℕ) → before (both (Rf n ρ w) (λ r. any size (both (Hb n ρ r) (before (converse (Mo n ρ) w) n)))) n ≡ before (rule35 n ρ w) n
    unfolding rule35
    rule35_by w = before_ext n _ (rule35 n ρ w) λ r l.
        and_comm (Rf n ρ w r) (any size (both (Hb n ρ r) (before (converse (Mo n ρ) w) n)))
        ∙ ap (λ (t : Bool). t && Rf n ρ w r)
        (any_ext size _ _ (λ c k. sym (and_assoc (Hb n ρ r c) (Mo n ρ c w) (ltb c n))) ∙ any_before n size (both (Hb n ρ r) (converse (Mo n ρ) w)) h)

    module _ (ε : Book) (noted : Noted n ρ ε) (settled : Settled n ρ) (r : ℕ) (lr : r < n) where
      -- the only source of r is the lowest of those noted
      fed_by : (x : ℕ) → x < n → Rf n ρ x r ≡ eqb (least size (ε 1 r)) x
      unfolding notes
      fed_by x lx =
          let w = least size (ε 1 r) in
          let is = least_is size (ε 1 r) in
          let fed : (c : ℕ) → c < n → ε 1 r c ≡ Rf n ρ c r = λ c lc. noted_at n ρ ε noted 1 (omega arith) r c lr lc in
          let read : w < n → Rf n ρ w r ≡ true = λ lw. sym (fed w lw) ∙ is.hit (lt_of_lt_of_le lw h) in
          same (Rf n ρ x r) (eqb w x)
          (λ e. ⊎_elim
          (λ (l : x < w). not_both e (sym (fed x lx) ∙ is.miss x l))
          (λ (l : w ≤ x). let lw : w < n = omega arith in eq-eqb w x (settled.one_source w x r lw lx lr (true_T (read lw)) (true_T e)))
          (lt_or_le x w))
          (λ e. let q = eqb-true w x e in subst (λ (c : ℕ). Rf n ρ c r ≡ true) q (read (subst (λ (c : ℕ). c < n) (sym q) lx)))

      pub rule36_by_lem : (w : ℕ) → w ≡ least size (ε 1 r) → (p : Bool) → ltb w n ≡ p →
          before (when p (both (Hb n ρ r) (image n (before (converse (Mo n ρ) w) n) (Rf n ρ)))) n ≡ before (rule36 n ρ r) n
      unfolding rule36
      rule36_by_lem w is p below = before_ext n (when p (both (Hb n ρ r) (image n (before (converse (Mo n ρ) w) n) (Rf n ρ)))) (rule36 n ρ r) λ b l.
          let chosen : Set = λ x. Hb n ρ r b && any n (λ y. Mo n ρ y x && Rf n ρ y b) in
          ap₂ (λ (q t : Bool). q && (Hb n ρ r b && t)) (sym below) (any_ext n _ (λ y. Mo n ρ y w && Rf n ρ y b) λ y ly. rw (lt-ltb y n ly, and-true (Mo n ρ y w)))
          ∙ and_comm (ltb w n) (chosen w)
          ∙ sym (any_single n chosen w)
          ∙ any_ext n (λ x. chosen x && eqb w x) (λ x. any n λ y. Rf n ρ x r && Mo n ρ y x && Hb n ρ r b && Rf n ρ y b) λ x lx. rw (fed_by x lx, is) (simp prenex)
