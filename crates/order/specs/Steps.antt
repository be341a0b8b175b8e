-- The order and its condition in the pieces that the code works out.
use Rattle.std.specs.Prelude.{ℕ, Bool, not, ◌&&◌, ◌||◌, List, ◌++◌, eqb, length, drop}
use Rattle.rows.specs.Sets.{Set, Rel, any}
use Rattle.model.specs.declared.Verdict.{Verdict}
use Rattle.model.specs.Model.{Book, some, each, fence}
use Rattle.model.specs.Judge.{is_passed, fit}

-- the members of a set with no predecessor in it
abbrev pub unpreceded : ℕ → Rel → Set → Set
unpreceded n r left a = left a && not (any n λ z. left z && r z a)

-- o at the front of a buffer, whose rest stays
abbrev pub onto : List ℕ → List ℕ → List ℕ
onto o s = o ++ drop (length o) s

-- no fence, and each of these actions is one of those
abbrev pub strong : ℕ → Book → Set → Set → Bool
strong n ρ these those = not (some n ρ (fence n ρ)) && (each n ρ λ a. not (these a) || those a)

module _ (e : ℕ) (n : ℕ) (ρ : Book) where
  -- no fence, and the accesses are as the edition asks
  abbrev pub suited : Bool
  suited = not (some n ρ (fence n ρ)) && fit e n ρ

  -- what `due` asks, of a verdict and of the counts of indeterminate reads, unsequenced races and data races
  abbrev pub due_for : Verdict → ℕ → ℕ → ℕ → Bool
  due_for v indeterminate unsequenced races = is_passed v && (eqb races 0 && eqb unsequenced 0) && eqb indeterminate 0 && suited
