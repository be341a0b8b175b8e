-- The searches of relations 7 to 17 are the model's.
use Rattle.std.specs.Prelude.{ℕ, ◌<◌, Bool, not, ◌&&◌, ◌||◌, ◌≡◌, eqb}
use Rattle.std.proofs.Common.{sym, ap, ◌∙◌}
use Rattle.rows.specs.Sets.{any}
use Rattle.rows.specs.Laws.Truth.{Conj}
use Rattle.rows.proofs.Laws.Quantifiers.{any_ext, any_and}
use Rattle.model.specs.Model.{Book, Sb, Rf, Mo, element, at_atomic, write, atomic, release, acquire, fence, same_place, hrs, rs, sw_fences, sw_fence_atomic, sw_atomic_fence, sw, dob}
use Rattle.slow.specs.Laws.Loops.{each_by}
use Rattle.slow.specs.Searches.{Sequences, broken, heard, released, fences_by, fence_atomic_by, atomic_fence_by, sw_by, dob_by}

module _ (n : ℕ) (ρ : Book) where
  pub hrs_by : (a b : ℕ) → (at_atomic n ρ b && (eqb b a || (Mo n ρ a b && element n ρ a b && not (broken n ρ a b)))) ≡ hrs n ρ a b
  unfolding hrs
  hrs_by a b = rw (each_by n (λ c. Mo n ρ a c && Mo n ρ c b) (element n ρ a))

  -- ---- sw and dob, where relations 7 and 8 stand in the book

  module _ (S : Sequences n ρ) where
    heard_by : (x y : ℕ) → x < n → heard n ρ x y ≡ any n (λ z. hrs n ρ x z && Rf n ρ z y)
    heard_by x y l = any_ext n _ _ (λ z m. ap (λ (t : Bool). t && Rf n ρ z y) (S.hrs_is x z l m))

    released_by : (a b : ℕ) → a < n → released n ρ a b ≡ any n (λ z. rs n ρ a z && Rf n ρ z b)
    released_by a b l = any_ext n _ _ (λ z m. ap (λ (t : Bool). t && Rf n ρ z b) (S.rs_is a z l m))

    fences_by_lem : (a b : ℕ) → fences_by n ρ a b ≡ sw_fences n ρ a b
    fences_by_lem a b =
        ap (λ (t : Bool). (release n ρ a && fence n ρ a && acquire n ρ b && fence n ρ b) && t)
        (any_ext n _ _ λ x l. sym (any_and n (atomic n ρ x && write n ρ x && Sb n ρ a x) (λ y. (atomic n ρ y && same_place n ρ x y && Sb n ρ y b) && heard n ρ x y))
        ∙ any_ext n _ _ λ y m. rw (heard_by x y l) (simp Conj))

    fence_atomic_by_lem : (a b : ℕ) → fence_atomic_by n ρ a b ≡ sw_fence_atomic n ρ a b
    fence_atomic_by_lem a b =
        ap (λ (t : Bool). (release n ρ a && fence n ρ a && acquire n ρ b && atomic n ρ b) && t)
        (any_ext n _ _ λ x l. rw (heard_by x b l))

    atomic_fence_by_lem : (a b : ℕ) → a < n → atomic_fence_by n ρ a b ≡ sw_atomic_fence n ρ a b
    atomic_fence_by_lem a b la =
        ap (λ (t : Bool). (release n ρ a && atomic n ρ a && acquire n ρ b && fence n ρ b) && t)
        (any_ext n _ _ λ x l. rw (released_by a x la))

    pub sw_by_lem : (a b : ℕ) → a < n → sw_by n ρ a b ≡ sw n ρ a b
    unfolding sw
    sw_by_lem a b la = rw (released_by a b la, fences_by_lem a b, fence_atomic_by_lem a b, atomic_fence_by_lem a b la)

    pub dob_by_lem : (a d : ℕ) → a < n → dob_by n ρ a d ≡ dob n ρ a d
    unfolding dob
    dob_by_lem a d la = any_ext n _ _ λ b l. rw (released_by a b la) (simp Conj)

  -- what the code works out by these is the model's, where relations 7 and 8 stand in the book
  pub sw_too : (a b : ℕ) {q : Bool} → q ≡ sw_by n ρ a b → (q ≡ sw_by n ρ a b) × (Sequences n ρ → a < n → q ≡ sw n ρ a b)
  sw_too a b e = (e, λ S la. e ∙ sw_by_lem S a b la)

  pub dob_too : (a d : ℕ) {q : Bool} → q ≡ dob_by n ρ a d → (q ≡ dob_by n ρ a d) × (Sequences n ρ → a < n → q ≡ dob n ρ a d)
  dob_too a d e = (e, λ S la. e ∙ dob_by_lem S a d la)
