-- Bytes of the rows of a relation record, once for rows of 8 and of 16.
use Rattle.std.specs.Prelude.{ℕ, ◌+◌, ◌*◌, ◌<◌, ◌≤◌, Bool, true, false, cond, ◌≡◌, refl, ltb}
use Rattle.std.proofs.Common.{arith}
use Rattle.rows.specs.Numbers.{width}
use Rattle.drawing.specs.Files.{row_bytes, rows_length}

-- each has as many
pub rows_each : (n a : ℕ) → row_bytes n * a ≡ rows_length n a
rows_each n a = go (ltb width n)
  where
    go : (b : Bool) → cond b 16 8 * a ≡ cond b (16 * a) (8 * a)
    go true = refl
    go false = refl

-- row a is among the first m
pub row_inside : (n a m : ℕ) → a < m → rows_length n a + row_bytes n ≤ rows_length n m
row_inside n a m l = go (ltb width n)
  where
    go : (b : Bool) → cond b (16 * a) (8 * a) + cond b 16 8 ≤ cond b (16 * m) (8 * m)
    go true = omega arith
    go false = omega arith

-- none has fewer than 8 or more than 16
pub row_least : (n : ℕ) → 8 ≤ row_bytes n
row_least n = go (ltb width n)
  where
    go : (b : Bool) → 8 ≤ cond b 16 8
    go true = omega arith
    go false = omega arith

pub rows_most : (n a : ℕ) → rows_length n a ≤ 16 * a
rows_most n a = go (ltb width n)
  where
    go : (b : Bool) → cond b (16 * a) (8 * a) ≤ 16 * a
    go true = omega arith
    go false = omega arith
