-- The middle of an order that is not transitive, in words of its own.
use Rattle.std.specs.Prelude.{ℕ, ◌<◌, true, false, ◌↔◌, Option, Some}
use Rattle.std.proofs.Math.Path.{◌≡◌}
use Rattle.rows.specs.Sets.{Rel}

-- a→z→b but no a→b in s
pub record Between (s : Rel) (a b z : ℕ) : Type 0 where
  pub to : s a z ≡ true
  pub from : s z b ≡ true
  pub apart : s a b ≡ false

-- m is the middle of s at (a,b)
pub record MiddleOf (n : ℕ) (s : Rel) (a b : ℕ) (m : Option ℕ) : Type 0 where
  -- it is named exactly if there is some a→z→b but no a→b,
  pub named : ((z : ℕ) × (m ≡ Some z)) ↔ ((z : ℕ) × (z < n) × Between s a b z)
  -- and then it is the least such z
  pub first : (z : ℕ) → m ≡ Some z → (z < n) × Between s a b z × ((y : ℕ) → y < z → Between s a b y → ⊥)
