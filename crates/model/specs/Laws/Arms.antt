-- Where no arm of a match is taken.
use Rattle.std.specs.Prelude.{ℕ, zero, suc, ◌+◌, ◌≤◌, ◌<◌, Bool, false, ◌||◌, List, [], ◌∷◌, ◌⊎◌, T}
use Rattle.std.proofs.Common.{inl, inr, ⊎_elim}
use mir.Val.{has_key}
use types.Run.{OneOf, hit}
use Rattle.rows.specs.Sets.{Set, all}
use Rattle.rows.specs.Laws.Truth.{or_e, lt_or_le}
use Rattle.rows.proofs.Laws.Quantifiers.{all_e}

-- what a match tells there, arm by arm, after what it told earlier: k is none of the numbers of these arms
abbrev pub Missed : ℕ → Type 0 → List (List ℕ) → Type 0
Missed k earlier [] = earlier
Missed k earlier (x ∷ xs) = Missed k (earlier × (OneOf x k → ⊥)) xs

-- m arms of one number each, from i on
abbrev pub singles : ℕ → ℕ → List (List ℕ)
singles i zero = []
singles i (suc m) = (i ∷ []) ∷ singles (i + 1) m

missed_before : (k : ℕ) (earlier : Type 0) (arms : List (List ℕ)) → Missed k earlier arms → earlier
missed_before k earlier [] m = m
missed_before k earlier (x ∷ xs) m = (missed_before k (earlier × (OneOf x k → ⊥)) xs m).0

-- k is a number of some arm
abbrev pub in_arms : ℕ → List (List ℕ) → Bool
in_arms k [] = false
in_arms k (x ∷ xs) = has_key x k || in_arms k xs

missed_arms : (k : ℕ) (earlier : Type 0) (arms : List (List ℕ)) → Missed k earlier arms → T (in_arms k arms) → ⊥
missed_arms k earlier [] m t = t
missed_arms k earlier (x ∷ xs) m t =
    let before = missed_before k (earlier × (OneOf x k → ⊥)) xs m in
    ⊎_elim (λ (h : T (has_key x k)). before.1 (hit x k h)) (λ (h : T (in_arms k xs)). missed_arms k (earlier × (OneOf x k → ⊥)) xs m h) (or_e (has_key x k) (in_arms k xs) t)

-- none of the arms, which have every number below m but those of a kind: one of these, or from m on
pub missed_rest : (k m : ℕ) (rest : Set) (arms : List (List ℕ)) → T (all m λ j. rest j || in_arms j arms) → Missed k Unit arms → T (rest k) ⊎ (m ≤ k)
missed_rest k m rest arms every missed = ⊎_elim
    (λ (l : k < m).
    ⊎_elim inl (λ (h : T (in_arms k arms)). absurd (missed_arms k Unit arms missed h)) (or_e (rest k) (in_arms k arms) (all_e m (λ j. rest j || in_arms j arms) every k l)))
    inr
    (lt_or_le k m)
