-- The two engines come to the same.
use Rattle.std.specs.Prelude.{ℕ, List, ◌≡◌}
use Rattle.inspector.specs.declared.Both.{Both}

-- What the two engines answer to one file, with the stores and the order buffers that they leave:
pub record Same (r : Both) (store store2 order order2 : List ℕ) : Type 0 where
  -- same answer,
  pub answer : r.quick ≡ r.slow
  -- same store,
  pub stores : store ≡ store2
  -- same order.
  pub orders : order ≡ order2
