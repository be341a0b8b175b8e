-- The rows of the notes, and of actions at one place, as they are worked out.
use Rattle.std.specs.Prelude.{ℕ, Bool, true, false, ◌&&◌, ◌||◌, ◌≡◌, refl, ltb}
use Rattle.std.proofs.Math.Bool.{not, and_assoc, and_comm, or_comm, and-or_distrib_left}
use Rattle.std.proofs.Common.{sym, ◌∙◌}
use Rattle.std.proofs.Math.Path.{ap, fun_ext}
use Rattle.std.proofs.Math.Dec.{eqb}
use Rattle.rows.specs.Sets.{Set, any, all, both, either, less, when, at, image}
use Rattle.rows.specs.Numbers.{size}
use Rattle.rows.specs.Laws.Truth.{eqb_sym, not_or, Conj}
use Rattle.rows.specs.Laws.Sets.{less_both}
use Rattle.rows.proofs.Laws.Quantifiers.{any_ext, all_ext, not_any}
use Rattle.rows.proofs.Laws.Joins.{start_first}
use Rattle.model.specs.Model.{Book, Sb, Sc, Mo, element, write, at_atomic, at_mutex, same_place, same_thread, hrs, mutex_sc}
use Rattle.desk.specs.Clashes.{clash, unsequenced_clash}
use Rattle.desk.specs.Notes.{late, handover, sb_fences_sb}

-- each member of both p and q is in e: none of p outside e is in q
pub each_in : (n : ℕ) (p q e : Set) → not (any n λ c. less p e c && q c) ≡ all n λ c. not (p c && q c) || e c
each_in n p q e = not_any n (λ c. less p e c && q c) ∙ all_ext n _ _ (λ c l. turn (p c) (q c) (e c))
  where
    turn : (x y z : Bool) → not ((x && not z) && y) ≡ (not (x && y) || z)
    turn false y z = refl
    turn true false false = refl
    turn true false true = refl
    turn true true false = refl
    turn true true true = refl

module _ (n : ℕ) (ρ : Book) (a : ℕ) where
  pub hrs_by : either (both (less (both (Mo n ρ a) (element n ρ a)) (image n (less (Mo n ρ a) (element n ρ a)) (Mo n ρ))) (at_atomic n ρ)) (at (at_atomic n ρ) a) ≡ hrs n ρ a
  unfolding hrs
  hrs_by = fun_ext λ b.
      let chain = Mo n ρ a b && element n ρ a b && not (image n (less (Mo n ρ a) (element n ρ a)) (Mo n ρ) b) in
      rw (and_comm chain (at_atomic n ρ b), or_comm (eqb b a) _) (sym (and-or_distrib_left (at_atomic n ρ b) chain (eqb b a))
      ∙ ap (λ (t : Bool). at_atomic n ρ b && ((Mo n ρ a b && element n ρ a b && t) || eqb b a)) (each_in n (Mo n ρ a) (λ c. Mo n ρ c b) (element n ρ a)))

  -- what is neither a nor after it in mo
  pub late_by : less (λ b. ltb b size && not (eqb b a)) (Mo n ρ a) ≡ λ b. ltb b size && late n ρ a b
  late_by = fun_ext λ b. rw (eqb_sym a b, not_or (eqb b a) (Mo n ρ a b)) (and_assoc (ltb b size) (not (eqb b a)) (not (Mo n ρ a b)))

  pub handover_by : less (mutex_sc n ρ a) (image n (both (mutex_sc n ρ a) (at_mutex n ρ)) (λ z. both (same_place n ρ z) (Sc n ρ z))) ≡ handover n ρ a
  handover_by = fun_ext λ b. simp and_assoc

  pub sb_fences_by : (fences : Set) → image n (both (image n (both (Sb n ρ a) fences) (Sc n ρ)) fences) (Sb n ρ) ≡ sb_fences_sb n ρ fences a
  sb_fences_by fences = fun_ext λ b.
      (any_ext n _ _ λ g l. and_assoc (any n λ f. (Sb n ρ a f && fences f) && Sc n ρ f g) (fences g) (Sb n ρ g b))
      ∙ start_first n (λ f. Sb n ρ a f && fences f) (Sc n ρ) (λ g. fences g && Sb n ρ g b)
      ∙ simp Conj

  -- ---- two actions at one place, one of them a write

  pub clash_by : either (both (same_place n ρ a) (write n ρ)) (when (write n ρ a) (same_place n ρ a)) ≡ clash n ρ a
  clash_by = fun_ext λ b. rw (and_comm (write n ρ a) (same_place n ρ a b), or_comm (write n ρ a) (write n ρ b)) (sym (and-or_distrib_left (same_place n ρ a b) (write n ρ b) (write n ρ a)))

  pub unsequenced_by : (these : Set) →
      let apart = less (both (both (clash n ρ a) (same_thread n ρ a)) these) (Sb n ρ a) in
      less apart (both apart (λ b. Sb n ρ b a)) ≡ both these (unsequenced_clash n ρ a)
  unsequenced_by these =
      let apart = less (both (both (clash n ρ a) (same_thread n ρ a)) these) (Sb n ρ a) in
      less_both apart (λ b. Sb n ρ b a) ∙ fun_ext λ b. simp Conj
