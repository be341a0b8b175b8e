-- What a loop over the parts of a walk needs, once for every loop.
use Prim.Native.Nat.{ℕ, suc, ◌+◌, ◌-◌, ◌<◌, ◌≤◌}
use mathlib.Core.Path.{◌≡◌}
use native.Mathlib.Omega.{arith}
use Rattle.std.specs.Prelude.{Err}
use Rattle.model.specs.declared.refusals.Refusal.{Refusal}
use Rattle.model.specs.Refusals.{Passed, Walk}
use Rattle.drawing.specs.Files.{walks}

module _ (f : ℕ → Walk) where
  -- a part that passes is passed
  pub walk_go : (i n : ℕ) → i < n → f i ≡ Passed → walks f i (n - i) ≡ walks f (i + 1) (n - (i + 1))
  unfolding walks
  walk_go i n l p =
      let e : n - i ≡ suc (n - (i + 1)) = omega arith in
      rw e (rw p)

  -- a part that is refused is the answer
  pub walk_stop : (i n : ℕ) (r : Refusal) → i < n → f i ≡ Err r → walks f i (n - i) ≡ Err r
  unfolding walks
  walk_stop i n r l p =
      let e : n - i ≡ suc (n - (i + 1)) = omega arith in
      rw e (rw p)

  -- nothing is left
  pub walk_done : (i n : ℕ) → n ≤ i → walks f i (n - i) ≡ Passed
  unfolding walks
  walk_done i n l = let e : n - i ≡ 0 = omega arith in rw e
