-- What rules come to where they hold: a strict order, an order that is total on a set, mo (13, 14), and the source of a read (18).
use Rattle.std.specs.Prelude.{ℕ, ◌<◌, ◌&&◌, ◌≡◌, ◌⊎◌, T, eqb, ltb}
use Rattle.std.proofs.Math.Bool.{not}
use Rattle.std.proofs.Math.Path.{sym}
use Rattle.std.proofs.Common.{inl, inr, arith, eqb→eq, lt→ltb}
use Rattle.std.proofs.Math.Logic.{⊎_elim}
use Rattle.std.proofs.Math.Dec.{eqb_refl}
use Rattle.rows.specs.Sets.{Rel}
use Rattle.rows.specs.Laws.Truth.{order3, and_l, and_r, and_i, or_l, or_r, dec}
use Rattle.rows.proofs.Laws.Quantifiers.{any_i}
use Rattle.model.specs.Model.{Book, Rf, Mo, write, at_atomic, same_place, of_atomic, writes_of, place_mo, strict, total, ◌⨾◌, rules, rule13, rule14, rule18}
use Rattle.model.specs.Judge.{rule}
use Rattle.model.specs.Laws.Placing.{Placing}

-- no pair of the n actions is an offence of rule k
abbrev pub Holds : ℕ → Book → ℕ → Type 0
Holds n ρ k = (a b : ℕ) → a < n → b < n → T (rule n ρ k a b) → ⊥

-- a relation that nowhere offends as a strict order is irreflexive and transitive
module _ (n : ℕ) (ρ : Book) (s : Rel) (ok : (a b : ℕ) → a < n → b < n → T (strict n ρ s a b) → ⊥) where
  pub strict_irrefl : (a : ℕ) → a < n → T (s a a) → ⊥
  strict_irrefl a l t = ok a a l l (search (or_l, and_i, eqb_refl))

  pub strict_trans : (a b c : ℕ) → a < n → b < n → c < n → T (s a b) → T (s b c) → T (s a c)
  strict_trans a b c la lb lc p q =
      ⊎_elim (λ t. t)
      (λ t.
      let z : T (◌⨾◌ n ρ s s a c) = any_i n (λ z. s a z && s z c) b lb (search (and_i)) in
      absurd (ok a c la lc (search (or_r, and_i))))
      (dec (s a c))

-- one that nowhere offends as total on a set is a strict order, its edges stay inside, and of two different members one comes first
module _ (n : ℕ) (ρ : Book) (inside s : Rel) (ok : (a b : ℕ) → a < n → b < n → T (total n ρ inside s a b) → ⊥) where
  pub total_strict : (a b : ℕ) → a < n → b < n → T (strict n ρ s a b) → ⊥
  total_strict a b la lb t = ok a b la lb (search (or_l))

  pub total_ends : (a b : ℕ) → a < n → b < n → T (s a b) → T (inside a b)
  total_ends a b la lb t = ⊎_elim (λ q. q) (λ q. absurd (ok a b la lb (search (or_l, or_r, and_i)))) (dec (inside a b))

  total_up : (a b : ℕ) → a < b → b < n → T (inside a b) → T (s a b) ⊎ T (s b a)
  total_up a b l lb t =
      ⊎_elim inl
      (λ p. ⊎_elim inr
      (λ q. let low : T (ltb a b) = lt→ltb a b l in absurd (ok a b (omega arith) lb (search (or_r, and_i))))
      (dec (s b a)))
      (dec (s a b))

  pub total_either : (a b : ℕ) → a < n → b < n → (a ≡ b → ⊥) → T (inside a b) → T (inside b a) → T (s a b) ⊎ T (s b a)
  total_either a b la lb ne t u =
      ⊎_elim
      (λ l. total_up a b l lb t)
      (⊎_elim (λ e. absurd (ne e)) (λ l. ⊎_elim inr inl (total_up b a l la u)))
      (order3 a b)

module _ (n : ℕ) (ρ : Book) where
  -- ---- rule 13: an edge of mo joins different writes of one atomic place

  pub mo_ends : Holds n ρ 13 → (a b : ℕ) → a < n → b < n → T (Mo n ρ a b) → T (not (eqb b a) && writes_of n ρ a b)
  unfolding rules rule13
  mo_ends ok a b la lb t = ⊎_elim (λ q. q) (λ q. absurd (ok a b la lb (search (and_i)))) (dec (not (eqb b a) && writes_of n ρ a b))

  -- ---- rule 14: mo kept to one atomic place is a strict order, and of two different writes there one comes first

  pub writes_sym : Placing n ρ → (a b : ℕ) → T (writes_of n ρ a b) → T (writes_of n ρ b a)
  writes_sym P a b t =
      let same : T (same_place n ρ a b) = search (and_l, and_r) in
      let back : T (same_place n ρ b a) = P.place_sym a b same in
      let here : T (at_atomic n ρ b) = P.at_atomic_too b a back (search (and_l, and_r)) in
      let wa : T (write n ρ a) = search (and_l, and_r) in
      let wb : T (write n ρ b) = search (and_l, and_r) in
      search (and_i)

  module _ (ok : Holds n ρ 14) where
    in_order_lem : (a b : ℕ) → a < n → b < n → T (total n ρ (writes_of n ρ) (place_mo n ρ) a b) → ⊥
    unfolding rules rule14
    in_order_lem = ok

    pub place_one_way : (a b : ℕ) → a < n → b < n → T (place_mo n ρ a b) → T (place_mo n ρ b a) → ⊥
    place_one_way a b la lb p q =
        let keeps = total_strict n ρ (writes_of n ρ) (place_mo n ρ) in_order_lem in
        strict_irrefl n ρ (place_mo n ρ) keeps a la (strict_trans n ρ (place_mo n ρ) keeps a b a la lb la p q)

    pub mo_either : Placing n ρ → (a b : ℕ) → a < n → b < n → (a ≡ b → ⊥) → T (writes_of n ρ a b) → T (Mo n ρ a b) ⊎ T (Mo n ρ b a)
    mo_either P a b la lb ne w =
        ⊎_elim
        (λ q. inl (and_r (of_atomic n ρ a b) (Mo n ρ a b) q))
        (λ q. inr (and_r (of_atomic n ρ b a) (Mo n ρ b a) q))
        (total_either n ρ (writes_of n ρ) (place_mo n ρ) in_order_lem a b la lb ne w (writes_sym P a b w))

  -- ---- rule 18: what two actions lead to in rf has one of them as its source

  pub one_source : Holds n ρ 18 → (a b c : ℕ) → a < n → b < n → c < n → T (Rf n ρ a c) → T (Rf n ρ b c) → a ≡ b
  unfolding rules rule18
  one_source ok a b c la lb lc p q =
      ⊎_elim (λ e. sym (eqb→eq b a e))
      (λ e. let other = any_i n (λ x. not (eqb x a) && Rf n ρ x c) b lb (search (and_i)) in absurd (ok a c la lc (search (and_i))))
      (dec (eqb b a))
