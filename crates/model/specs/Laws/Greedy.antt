-- The greedy order of a relation, store by store: what is left to store, what each step stores of it, and where it ends.
use Prim.Native.Nat.{ℕ, zero, suc, ◌+◌, ◌-◌, ◌≤◌, ◌<◌}
use Rattle.std.specs.Prelude.{Bool, true, false, cond, List, [], ◌∷◌, ◌++◌, ◌≡◌, ltb, length, set, drop}
use Rattle.std.proofs.Common.{ap, ◌∙◌}
use Rattle.std.proofs.Math.Numerals.{add-one}
use native.Mathlib.Omega.{arith}
use Rattle.std.proofs.lemmas.List.Edits.{sets, sets-eq}
use borrow.Author.Tests.{lt-ltb, le-ltb}
use Rattle.rows.specs.Sets.{Set, Rel, without}
use Rattle.model.specs.Judge.{next, greedy, onto}

greedy_length : (n : ℕ) (r : Rel) (k : ℕ) (left : Set) → length (greedy n r k left) ≤ k
unfolding greedy
greedy_length n r zero left = omega arith
greedy_length n r (suc k) left = go (ltb (next n r left) n) (greedy_length n r k (without left (next n r left)))
  where
    go : (t : Bool) → length (greedy n r k (without left (next n r left))) ≤ k → length (cond t (next n r left ∷ greedy n r k (without left (next n r left))) []) ≤ suc k
    go true h = omega arith
    go false h = omega arith

-- what is left to store, from position i on, of the n actions
abbrev pub rest : ℕ → Rel → ℕ → Set → List ℕ
rest n r i left = greedy n r (n - i) left

module _ (n : ℕ) (r : Rel) (i : ℕ) (left : Set) where
  pub store_next : (s : List ℕ) (a : ℕ) → i < n → a ≡ next n r left → a < n → sets s i (rest n r i left) ≡ sets (set s i a) (i + 1) (rest n r (i + 1) (without left a))
  unfolding greedy
  store_next s a l e h =
      let k : n - i ≡ suc (n - (i + 1)) = omega arith in
      rw (k, ← e, lt-ltb a n h, add-one i)

  pub store_none : (s : List ℕ) (a : ℕ) → i < n → a ≡ next n r left → n ≤ a → sets s i (rest n r i left) ≡ s
  unfolding greedy
  store_none s a l e h =
      let k : n - i ≡ suc (n - (i + 1)) = omega arith in
      rw (k, ← e, le-ltb a n h)

  pub store_done : (s : List ℕ) → n ≤ i → sets s i (rest n r i left) ≡ s
  unfolding greedy
  store_done s l = let k : n - i ≡ 0 = omega arith in rw k

-- all of them stored
pub stored : (n : ℕ) (r : Rel) (left : Set) (s : List ℕ) → n ≤ length s → sets s 0 (rest n r 0 left) ≡ onto (greedy n r n left) s
stored n r left s h =
    let o : List ℕ = greedy n r n left in
    let z : n - 0 ≡ n = omega arith in
    let k : 0 + length o ≡ length o = omega arith in
    rw z (sets-eq o s 0 (omega (arith, greedy_length n r n left)) ∙ ap (λ (m : ℕ). o ++ drop m s) k)
