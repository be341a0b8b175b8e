-- What a verdict means: no rule offends, or this is the lowest that does, with its least pair and the middle there.
use Rattle.std.specs.Prelude.{ℕ, ◌<◌, T, Option, None}
use Rattle.std.proofs.Math.Bool.{true, false}
use Rattle.std.proofs.Math.Path.{◌≡◌}
use Rattle.rows.specs.Laws.Pairs.{LeastPair}
use Rattle.model.specs.Limits.{rules_end}
use Rattle.model.specs.Model.{Book, in_force, tests_order, tested}
use Rattle.model.specs.Judge.{rule}
use Rattle.model.specs.Laws.Holds.{Holds}
use Rattle.model.specs.Laws.Middles.{MiddleOf}

-- no rule of edition e offends at any pair of the n actions
pub record Clean (e : ℕ) (n : ℕ) (ρ : Book) : Type 0 where
  pub never_offends : (k : ℕ) → k < rules_end → T (in_force e k) → Holds n ρ k

-- k is the lowest rule of edition e that offends, (a, b) the least pair at which it does, and m the middle there
pub record FirstBroken (e : ℕ) (n : ℕ) (ρ : Book) (k a b : ℕ) (m : Option ℕ) : Type 0 where
  pub rule_lt : k < rules_end
  pub in_force_lem : in_force e k ≡ true
  pub pair : LeastPair n (rule n ρ k) a b
  pub lower : (j : ℕ) → j < k → in_force e j ≡ true → (x y : ℕ) → x < n → y < n → rule n ρ j x y ≡ false
  -- of the relation tested; all rules but 4, 6, 10 and 14 return no middle
  pub middle : MiddleOf n (tested n ρ k a b) a b m
  pub others : tests_order k ≡ false → m ≡ None
