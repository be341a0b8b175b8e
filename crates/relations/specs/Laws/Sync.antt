-- Relations 7 to 13: the rows as the code works them out are the paper's.
use Rattle.std.specs.Prelude.{ℕ, ◌<◌, Bool, true, false, ◌&&◌, ◌||◌, ◌≡◌, ltb}
use Rattle.std.proofs.Math.Bool.{and_comm, and-true, or_assoc, and-or_distrib_right}
use Rattle.std.proofs.Math.Path.{sym, ap, fun_ext}
use Rattle.std.proofs.Common.{ap₂, ◌∙◌, arith}
use borrow.Author.Tests.{lt-ltb}
use Rattle.rows.specs.Sets.{Set, any, none, within, both, either, less, when, before, image}
use Rattle.rows.specs.Laws.Truth.{Conj}
use Rattle.rows.proofs.Laws.Quantifiers.{any_ext, any_and, any_swap}
use Rattle.rows.specs.Laws.Sets.{before_ext}
use Rattle.rows.proofs.Laws.Joins.{image_reflexive}
use Rattle.model.specs.Model.{Book, Sb, Asw, Rf, Sc, Cad, write, atomic, fence, lock, unlock, acquire, release, consume, same_place, same_thread, hrs, rs, sw, sw_mutex, sw_atomic, sw_fences, sw_fence_atomic, sw_atomic_fence, dob}
use Rattle.desk.specs.Notes.{heard, notes, Noted}
use Rattle.relations.specs.Bases.{told}

module _ (n : ℕ) (ρ : Book) (a : ℕ) where
  pub rs_by : when (release n ρ a) (hrs n ρ a) ≡ rs n ρ a
  unfolding rs
  rs_by = fun_ext λ b. and_comm (release n ρ a) (hrs n ρ a b)

  -- rs;rf is hrs;rf from a release
  pub rs_heard : (b : ℕ) → (any n λ c. rs n ρ a c && Rf n ρ c b) ≡ (release n ρ a && heard n ρ a b)
  unfolding rs
  rs_heard b = any_ext n _ _ (λ c l. simp Conj) ∙ any_and n (release n ρ a) (λ c. hrs n ρ a c && Rf n ρ c b)

  pub sw_mutex_by : when (unlock n ρ a) (both (both (same_place n ρ a) (lock n ρ)) (Sc n ρ a)) ≡ sw_mutex n ρ a
  sw_mutex_by = fun_ext λ b. simp Conj

  -- told, in the paper's order
  sw_told : (b : ℕ) → told n ρ a b ≡ any n λ x. atomic n ρ x && write n ρ x && same_place n ρ x b && Sb n ρ a x && heard n ρ x b
  sw_told b = any_ext n _ _ λ x l. simp Conj

  sw_fences_turn : (b : ℕ) →
      (any n λ y. (atomic n ρ y && Sb n ρ y b) && told n ρ a y)
      ≡ any n λ x. any n λ y. atomic n ρ x && write n ρ x && atomic n ρ y && same_place n ρ x y && Sb n ρ a x && Sb n ρ y b && heard n ρ x y
  sw_fences_turn b =
      any_ext n _ _ (λ y l. sym (any_and n (atomic n ρ y && Sb n ρ y b) (λ x. (Sb n ρ a x && (atomic n ρ x && write n ρ x)) && (heard n ρ x y && same_place n ρ x y))))
      ∙ any_swap n n (λ y x. (atomic n ρ y && Sb n ρ y b) && ((Sb n ρ a x && (atomic n ρ x && write n ρ x)) && (heard n ρ x y && same_place n ρ x y)))
      ∙ any_ext n _ _ (λ x l. any_ext n _ _ λ y m. simp Conj)

  -- from a release fence to acquire fences
  sw_fences_by : (release n ρ a && fence n ρ a) ≡ true → both (both (image n (both (before (told n ρ a) n) (atomic n ρ)) (Sb n ρ)) (fence n ρ)) (acquire n ρ) ≡ sw_fences n ρ a
  sw_fences_by here = fun_ext λ b.
      ap (λ (t : Bool). t && fence n ρ b && acquire n ρ b) (any_ext n _ _ (λ y l. rw (lt-ltb y n l) (simp Conj)) ∙ sw_fences_turn b) ∙ rw here (simp Conj)

  -- and to acquire atomics
  sw_fence_atomic_by : (release n ρ a && fence n ρ a) ≡ true → both (both (before (told n ρ a) n) (atomic n ρ)) (acquire n ρ) ≡ before (sw_fence_atomic n ρ a) n
  sw_fence_atomic_by here = fun_ext λ b. rw (here, sw_told b) (simp Conj)

  pub sw_from_fence_by : (release n ρ a && fence n ρ a) ≡ true →
      let y : Set = both (before (told n ρ a) n) (atomic n ρ) in
      both (either (both (image n y (Sb n ρ)) (fence n ρ)) y) (acquire n ρ) ≡ either (sw_fences n ρ a) (before (sw_fence_atomic n ρ a) n)
  sw_from_fence_by here =
      let y : Set = both (before (told n ρ a) n) (atomic n ρ) in
      (fun_ext λ b. and-or_distrib_right (image n y (Sb n ρ) b && fence n ρ b) (y b) (acquire n ρ b))
      ∙ ap₂ either (sw_fences_by here) (sw_fence_atomic_by here)

  -- from any other action to none
  pub sw_from_no_fence : (release n ρ a && fence n ρ a) ≡ false → none ≡ either (sw_fences n ρ a) (before (sw_fence_atomic n ρ a) n)
  sw_from_no_fence e = fun_ext λ b. rw e

  -- the six cases, as the code joins them
  abbrev cases : Set
  cases = either (either (either (either (Asw n ρ a) (sw_mutex n ρ a)) (before (sw_atomic n ρ a) n)) (either (sw_fences n ρ a) (before (sw_fence_atomic n ρ a) n))) (sw_atomic_fence n ρ a)

  pub sw_by_lem : before cases n ≡ before (sw n ρ a) n
  unfolding sw
  sw_by_lem = before_ext n cases (sw n ρ a) λ b l. rw (lt-ltb b n l) (simp (and-true, or_assoc))

module _ (n : ℕ) (ρ ε : Book) (h : Noted n ρ ε) (a : ℕ) where
  heard_noted : ε 0 ≡ within n (heard n ρ)
  unfolding notes
  heard_noted = h.is 0 (omega arith)

  pub told_by : image n (both (Sb n ρ a) (both (atomic n ρ) (write n ρ))) (λ x. both (ε 0 x) (same_place n ρ x)) ≡ before (told n ρ a) n
  told_by = rw heard_noted (fun_ext λ y.
      any_ext n _ _ (λ x l. rw (lt-ltb x n l) (simp Conj)) ∙ any_and n (ltb y n) (λ x. (Sb n ρ a x && (atomic n ρ x && write n ρ x)) && (heard n ρ x y && same_place n ρ x y)) ∙ and_comm (ltb y n) (told n ρ a y))

  pub sw_atomic_by : a < n → when (release n ρ a) (both (less (both (same_place n ρ a) (acquire n ρ)) (same_thread n ρ a)) (ε 0 a)) ≡ before (sw_atomic n ρ a) n
  sw_atomic_by l = rw heard_noted (fun_ext λ b. rw (lt-ltb a n l, rs_heard n ρ a b) (simp Conj))

  pub sw_atomic_fence_by : a < n →
      both (both (image n (when (release n ρ a && atomic n ρ a) (both (both (ε 0 a) (atomic n ρ)) (same_place n ρ a))) (Sb n ρ)) (acquire n ρ)) (fence n ρ) ≡ sw_atomic_fence n ρ a
  sw_atomic_fence_by l = rw heard_noted (fun_ext λ b.
      ap (λ (t : Bool). t && acquire n ρ b && fence n ρ b) (
      any_ext n _ _ (λ x m. rw (lt-ltb a n l, lt-ltb x n m, rs_heard n ρ a x) (simp Conj))
      ∙ any_and n (release n ρ a && atomic n ρ a) (λ x. atomic n ρ x && same_place n ρ a x && Sb n ρ x b && (any n λ z. rs n ρ a z && Rf n ρ z x)))
      ∙ simp Conj)

  pub dob_by_lem : a < n → either (when (release n ρ a) (both (ε 0 a) (consume n ρ))) (image n (when (release n ρ a) (both (ε 0 a) (consume n ρ))) (Cad n ρ)) ≡ dob n ρ a
  unfolding dob
  dob_by_lem l = rw heard_noted (
      let s = when (release n ρ a) (both (within n (heard n ρ) a) (consume n ρ)) in
      fun_ext λ d.
      let cut : s d ≡ before s n d = simp Conj in
      ap (λ (t : Bool). t || image n s (Cad n ρ) d) cut
      ∙ sym (ap (λ (f : Set). f d) (image_reflexive n s (Cad n ρ)))
      ∙ any_ext n _ _ (λ b m. rw (lt-ltb a n l, lt-ltb b n m, rs_heard n ρ a b) (simp Conj)))
