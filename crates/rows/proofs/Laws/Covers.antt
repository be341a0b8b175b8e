-- Sets that have every number whose row leads anywhere: what shows that a set does, and what it means for the others.
use Rattle.std.specs.Prelude.{ℕ, ◌≤◌, ◌<◌, true, false, ◌≡◌, ltb}
use Rattle.std.proofs.Common.{⊎_elim, lt_of_lt_of_le, lt-ltb}
use Rattle.rows.proofs.Laws.Quantifiers.{any_out}
use Rattle.rows.specs.Laws.Truth.{test, not_both, is_false}
use Rattle.rows.specs.Sets.{Set, Rel, any, Covers}

module _ (n : ℕ) (r : Rel) where
  -- each pair shows that its row is in s
  pub covers_by : (s : Set) → ((a b : ℕ) → a < n → b < n → r a b ≡ true → s a ≡ true) → Covers n r s
  covers_by s h a l e = let (b, m, t) = any_out n (r a) e in h a b l m t

  -- outside s, r leads nowhere
  pub covers_only : (s : Set) → ((a b : ℕ) → s a ≡ false → r a b ≡ false) → Covers n r s
  covers_only s h = covers_by s λ a b l m t. ⊎_elim (λ e. e) (λ e. not_both t (h a b e)) (test (s a))

  -- every number below n is below m
  pub covers_all : (m : ℕ) → n ≤ m → Covers n r (λ a. ltb a m)
  covers_all m h a l e = lt-ltb a m (lt_of_lt_of_le l h)

  -- the other rows lead nowhere
  pub covers_none : (s : Set) → Covers n r s → (a : ℕ) → a < n → s a ≡ false → any n (r a) ≡ false
  covers_none s h a l e = is_false (any n (r a)) (λ t. not_both (h a l t) e)
