-- The searches are the model's rules.
use Rattle.std.specs.Prelude.{ℕ, Bool, true, false, ◌&&◌, ◌||◌, cond, ◌≡◌, refl}
use Rattle.std.proofs.Math.Bool.{not}
use Rattle.std.proofs.Common.{sym, ap, ◌∙◌}
use Rattle.rows.specs.Sets.{Set, any}
use Rattle.rows.specs.Laws.Truth.{Conj}
use Rattle.rows.proofs.Laws.Quantifiers.{any_ext, any_and}
use Rattle.model.specs.Model.{Book, Sb, Rf, Mo, Sc, Hb, write, atomic, fence, same_place, sc_fence, up_to, rule24, rule25, rule26, rule36}
use Rattle.slow.specs.Searches.{fenced, stale, rule24_by, rule25_by, rule26_by, rule36_by}

-- a case by a test
pub by_test : (p x y : Bool) → ((p && x) || (not p && y)) ≡ cond p x y
by_test true true y = refl
by_test true false y = refl
by_test false x y = refl

-- a test that stands before a search, moved into it
into : (n : ℕ) (p : Bool) (f g : Set) → ((c : ℕ) → (p && f c) ≡ g c) → (p && any n f) ≡ any n g
into n p f g h = sym (any_and n p f) ∙ any_ext n _ g (λ c l. h c)

into2 : (n : ℕ) (p q : Bool) (f g : Set) → ((c : ℕ) → (p && (q && f c)) ≡ g c) → (p && (q && any n f)) ≡ any n g
into2 n p q f g h = ap (λ (t : Bool). p && t) (into n q f (λ c. q && f c) (λ c. refl)) ∙ into n p (λ c. q && f c) g h

into3 : (n : ℕ) (p q r : Bool) (f g : Set) → ((c : ℕ) → (p && (q && (r && f c))) ≡ g c) → (p && (q && (r && any n f))) ≡ any n g
into3 n p q r f g h = ap (λ (t : Bool). p && t) (into2 n q r f (λ c. q && (r && f c)) (λ c. refl)) ∙ into n p (λ c. q && (r && f c)) g h

module _ (n : ℕ) (ρ : Book) where
  pub fenced_by : (a b : ℕ) → fenced n ρ a b ≡ any n (λ f. any n (λ g. Sb n ρ a f && (fence n ρ f && fence n ρ g && Sc n ρ f g) && Sb n ρ g b))
  fenced_by a b = any_ext n _ _ λ f l. into n (Sb n ρ a f && fence n ρ f) (λ g. fence n ρ g && Sc n ρ f g && Sb n ρ g b) _ (λ g. simp Conj)

  pub stale_by : (a b : ℕ) → stale n ρ a b ≡ any n (λ x. any n (λ y. Rf n ρ x a && Rf n ρ y b && not (up_to n ρ x y)))
  stale_by a b = any_ext n _ _ λ x l. into n (Rf n ρ x a) (λ y. Rf n ρ y b && not (up_to n ρ x y)) _ (λ y. simp Conj)

  pub rule24_by_lem : (y b : ℕ) → rule24_by n ρ y b ≡ rule24 n ρ y b
  unfolding rule24
  rule24_by_lem y b =
      into n (Rf n ρ y b && atomic n ρ b) (λ a. (write n ρ a && same_place n ρ a b && not (up_to n ρ a y)) && any n (λ f. sc_fence n ρ f && Sb n ρ f b && Sc n ρ a f)) _ λ a.
      into2 n (Rf n ρ y b && atomic n ρ b) (write n ρ a && same_place n ρ a b && not (up_to n ρ a y)) (λ f. sc_fence n ρ f && Sb n ρ f b && Sc n ρ a f)
      (λ f. Rf n ρ y b && (sc_fence n ρ f && Sb n ρ f b) && atomic n ρ b && (write n ρ a && same_place n ρ a b) && Sc n ρ a f && not (up_to n ρ a y)) (λ f. simp Conj)

  pub rule25_by_lem : (y b : ℕ) → rule25_by n ρ y b ≡ rule25 n ρ y b
  unfolding rule25
  rule25_by_lem y b =
      into n (Rf n ρ y b && atomic n ρ b) (λ a. (atomic n ρ a && write n ρ a && same_place n ρ a b && not (up_to n ρ a y)) && any n (λ f. Sb n ρ a f && sc_fence n ρ f && Sc n ρ f b)) _ λ a.
      into2 n (Rf n ρ y b && atomic n ρ b) (atomic n ρ a && write n ρ a && same_place n ρ a b && not (up_to n ρ a y)) (λ f. Sb n ρ a f && sc_fence n ρ f && Sc n ρ f b)
      (λ f. Rf n ρ y b && atomic n ρ b && (atomic n ρ a && write n ρ a && same_place n ρ a b) && Sb n ρ a f && sc_fence n ρ f && Sc n ρ f b && not (up_to n ρ a y)) (λ f. simp Conj)

  pub rule26_by_lem : (y b : ℕ) → rule26_by n ρ y b ≡ rule26 n ρ y b
  unfolding rule26
  rule26_by_lem y b =
      into n (Rf n ρ y b && atomic n ρ b) (λ a. (atomic n ρ a && write n ρ a && same_place n ρ a b && not (up_to n ρ a y)) && any n (λ f. (Sb n ρ a f && sc_fence n ρ f) && any n (λ g. Sc n ρ f g && sc_fence n ρ g && Sb n ρ g b))) _ λ a.
      into2 n (Rf n ρ y b && atomic n ρ b) (atomic n ρ a && write n ρ a && same_place n ρ a b && not (up_to n ρ a y)) (λ f. (Sb n ρ a f && sc_fence n ρ f) && any n (λ g. Sc n ρ f g && sc_fence n ρ g && Sb n ρ g b)) _ λ f.
      into3 n (Rf n ρ y b && atomic n ρ b) (atomic n ρ a && write n ρ a && same_place n ρ a b && not (up_to n ρ a y)) (Sb n ρ a f && sc_fence n ρ f) (λ g. Sc n ρ f g && sc_fence n ρ g && Sb n ρ g b)
      (λ g. Rf n ρ y b && atomic n ρ b && (atomic n ρ a && write n ρ a && same_place n ρ a b) && Sb n ρ a f && Sc n ρ f g && Sb n ρ g b && (sc_fence n ρ f && sc_fence n ρ g) && not (up_to n ρ a y)) (λ g. simp Conj)

  pub rule36_by_lem : (r s : ℕ) → rule36_by n ρ r s ≡ rule36 n ρ r s
  unfolding rule36
  rule36_by_lem r s =
      into n (Hb n ρ r s) (λ w. Rf n ρ w r && any n (λ v. Mo n ρ v w && Rf n ρ v s)) _ λ w.
      into2 n (Hb n ρ r s) (Rf n ρ w r) (λ v. Mo n ρ v w && Rf n ρ v s) (λ v. Rf n ρ w r && Mo n ρ v w && Hb n ρ r s && Rf n ρ v s) (λ v. simp Conj)
