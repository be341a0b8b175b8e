-- What the middle of a relation at a pair means, and where there is none.
use Rattle.std.specs.Prelude.{ℕ, ◌<◌, true, false, not, ◌&&◌, cond, [], ◌∷◌, ◌⊎◌, refl, eqb, ltb, Option, Some, None}
use Rattle.std.proofs.Common.{true≢false, inl, inr, sym, arith, le_refl}
use Rattle.std.proofs.Math.Path.{◌≡◌}
use borrow.Author.Tests.{lt-ltb, le-ltb, ltb-true, ltb-false, not-true}
use Rattle.rows.specs.Sets.{Rel, never, least}
use Rattle.rows.specs.Laws.Truth.{and_1, and_2, both_false, is_false, not_both, test}
use Rattle.rows.proofs.Laws.Quantifiers.{Least, any_none, least_is, least_hit, least_none}
use Rattle.model.specs.Candidates.{among}
use Rattle.model.specs.Model.{Book, between, middle, tests_order, tested, middle_at}
use Rattle.model.specs.Laws.Middles.{Between, MiddleOf}

module _ (n : ℕ) (ρ : Book) (s : Rel) (a b : ℕ) where
  -- the test of the definition
  between_is : (z : ℕ) → between n ρ s a b z ≡ true → Between s a b z
  between_is z e =
      let way = and_1 (s a z && s z b) (not (s a b)) e in
      record { to = and_1 (s a z) (s z b) way; from = and_2 (s a z) (s z b) way; apart = not-true (s a b) (and_2 (s a z && s z b) (not (s a b)) e) }

  is_between : (z : ℕ) → Between s a b z → between n ρ s a b z ≡ true
  is_between z w = rw (w.to, w.from, w.apart)

  -- there is one: the least z
  middle_at_lem : (z : ℕ) → z < n → Between s a b z → ((y : ℕ) → y < z → Between s a b y → ⊥) → middle n ρ s a b ≡ Some z
  unfolding middle
  middle_at_lem z l w none =
      rw (least_hit n (between n ρ s a b) z l (is_between z w) (λ y k. is_false (between n ρ s a b y) λ e. none y k (between_is y e)), lt-ltb z n l)

  -- there is none
  middle_none : ((z : ℕ) → z < n → Between s a b z → ⊥) → middle n ρ s a b ≡ None
  unfolding middle
  middle_none none =
      rw (least_none n (between n ρ s a b) (any_none n (between n ρ s a b) λ z l. is_false (between n ρ s a b z) λ e. none z l (between_is z e)), le-ltb n n (le_refl n))

  pub middle_is : MiddleOf n s a b (middle n ρ s a b)
  unfolding middle
  middle_is = go (least n (between n ρ s a b)) (least_is n (between n ρ s a b)) (test (ltb (least n (between n ρ s a b)) n))
    where
      go : (z : ℕ) → Least n (between n ρ s a b) z → (ltb z n ≡ true) ⊎ (ltb z n ≡ false) → MiddleOf n s a b (cond (ltb z n) (Some z) None)
      go z h (inl e) =
          let l = ltb-true z n e in
          let w = between_is z (h.hit l) in
          rw e (record {
            named = (λ x. (z, l, w), λ x. (z, refl));
            first = λ y f. let q : z ≡ y = cc in rw (← q) (l, w, λ x k v. not_both (is_between x v) (h.miss x k));
          })
      go z h (inr e) =
          rw e (record {
            named = (
              λ x. let f : None ≡ Some x.0 = x.1 in let z : ◌≡◌ {A = ℕ} 0 1 = cc in absurd (omega arith),
              λ x. not_both (is_between x.0 x.2) (h.miss x.0 (omega (arith, x.1, ltb-false z n e))),
            );
            first = λ y f. let z : ◌≡◌ {A = ℕ} 0 1 = cc in absurd (omega arith);
          })

  -- what is like the middle is the middle
  pub middle_unique : (m : Option ℕ) → MiddleOf n s a b m → m ≡ middle n ρ s a b
  middle_unique None h = sym (middle_none λ z l w. let x = h.named.1 (z, l, w) in let f = x.1 in let z : ◌≡◌ {A = ℕ} 0 1 = cc in omega arith)
  middle_unique (Some z) h = let x = h.first z refl in sym (middle_at_lem z x.0 x.1 x.2)

-- All other failures return no middle.
pub middle_others : (n : ℕ) (ρ : Book) (k a b : ℕ) → tests_order k ≡ false → middle_at n ρ k a b ≡ None
unfolding tested
middle_others n ρ k a b e =
    let (four, rest) = both_false (eqb k 4) (among k (6 ∷ 10 ∷ 14 ∷ [])) e in
    let (six, rest) = both_false (eqb k 6) (among k (10 ∷ 14 ∷ [])) rest in
    let (ten, rest) = both_false (eqb k 10) (among k (14 ∷ [])) rest in
    let (fourteen, rest) = both_false (eqb k 14) (among k []) rest in
    rw (four, six, ten, fourteen) (middle_none n ρ never a b λ z l w. true≢false (sym w.to))
