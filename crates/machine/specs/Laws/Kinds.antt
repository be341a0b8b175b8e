-- The orders that rule 1 allows, by the number of the kind.
use Rattle.std.specs.Prelude.{true, ◌||◌, [], ◌∷◌, ◌≡◌, eqb}
use Rattle.std.proofs.Math.Bool.{and-true, or_assoc, or-false}
use borrow.Author.Tests.{ne_eqb}
use Rattle.model.specs.declared.ActionKind.{ActionKind}
use Rattle.model.specs.Actions.{kind_number, order_in}
use Rattle.model.specs.Candidates.{among}
use Rattle.machine.specs.Machine.{ordered}

module _ (k : ActionKind) where
  -- of a load
  pub load_ordered : kind_number k ≡ 3 → ordered k ≡ (among (order_in k) (1 ∷ 2 ∷ 3 ∷ []) || eqb (order_in k) 6)
  unfolding ordered
  load_ordered e = rw e (simp (or_assoc, or-false, and-true))

  -- of a store
  pub store_ordered : kind_number k ≡ 4 → ordered k ≡ among (order_in k) (1 ∷ 4 ∷ 6 ∷ [])
  unfolding ordered
  store_ordered e = rw e

  -- any of another kind
  pub other_ordered : (kind_number k ≡ 3 → ⊥) → (kind_number k ≡ 4 → ⊥) → ordered k ≡ true
  unfolding ordered
  other_ordered n₃ n₄ = simp (ne_eqb (kind_number k) 3 n₃, ne_eqb (kind_number k) 4 n₄)
