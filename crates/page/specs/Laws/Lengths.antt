-- How long numbers, endings and lists one after another can be.
use Rattle.std.specs.Prelude.{ℕ, zero, suc, ◌+◌, ◌/◌, ◌%◌, ◌^◌, ◌<◌, ◌≤◌, List, [], ◌∷◌, length}
use Rattle.std.proofs.Common.{zero-le, ⊎_elim, le_refl, le_trans, add-le-add, pow-suc, arith, length-append}
use Rattle.std.proofs.Math.Decide.{le_ind}
use Rattle.rows.specs.Sets.{sum}
use Rattle.rows.specs.Numbers.{joined}
use Rattle.rows.specs.Laws.Lists.{joined_length}
use Rattle.rows.specs.Laws.Truth.{lt_or_le}
use Rattle.page.specs.Lines.{decimal, ending}
use Rattle.page.specs.Laws.Numbers.{decimal_digit, decimal_more}

-- a number below a power of ten has no more digits than that
pub decimal_length : (k n : ℕ) → n < 10 ^ suc k → length (decimal n) ≤ suc k
decimal_length zero n h = rw (decimal_digit n (omega arith)) (omega arith)
decimal_length (suc k) n h = ⊎_elim
    (λ (l : n < 10). rw (decimal_digit n l) (omega arith))
    (λ (l : 10 ≤ n). rw (decimal_more n l, length-append (decimal (n / 10)) ((48 + n % 10) ∷ [])) (omega (arith, decimal_length k (n / 10) (omega (arith, pow-suc 10 (suc k))))))
    (lt_or_le n 10)

pub ending_more : (k n : ℕ) (ns : List ℕ) → length (decimal n) ≤ k → length (ending (n ∷ ns)) ≤ 1 + k + length (ending ns)
unfolding ending
ending_more k n ns h = omega (arith, length-append (decimal n) (ending ns))

-- ---- lists one after another

pub sum_up : (n m : ℕ) (f : ℕ → ℕ) → n ≤ m → sum n f ≤ sum m f
unfolding sum
sum_up n m f l = le_ind (λ (k : ℕ). sum n f ≤ sum k f) (le_refl (sum n f)) (λ k g ih. omega arith) m l

sum_most : (n : ℕ) (f g : ℕ → ℕ) → ((c : ℕ) → c < n → f c ≤ g c) → sum n f ≤ sum n g
unfolding sum
sum_most zero f g h = zero-le
sum_most (suc n) f g h = add-le-add (sum_most n f g (λ c l. h c (omega arith))) (h n (le_refl (suc n)))

-- n of them, or fewer, are no longer than the sum of their bounds
pub joined_most : {A : Type 0} (n m : ℕ) (f : ℕ → List A) (g : ℕ → ℕ) → n ≤ m → ((c : ℕ) → c < n → length (f c) ≤ g c) → length (joined n f) ≤ sum m g
joined_most n m f g l h = rw (joined_length n f) (le_trans (sum_most n (λ c. length (f c)) g h) (sum_up n m g l))
