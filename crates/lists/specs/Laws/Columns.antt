-- A row has bits at columns below n alone just where each of its numbers does.
use Rattle.std.specs.Prelude.{ℕ, ◌+◌, ◌-◌, ◌*◌, ◌/◌, ◌%◌, ◌^◌, ◌<◌, ◌≤◌, cond, ◌≡◌, ltb}
use Rattle.std.proofs.Common.{⊎_elim, sym, ap, ◌∙◌, arith, lt-ltb, le-ltb, le-leb}
use Rattle.std.proofs.lemmas.Bool.{lt-leb}
use Rattle.rows.specs.Numbers.{bit, width, digit, wide, size, area}
use Rattle.rows.proofs.Laws.Bits.{bit_few, bit_above}
use Rattle.rows.proofs.Laws.Members.{digit_lt, digit_bit}
use Rattle.rows.specs.Laws.Truth.{lt_or_le}
use Rattle.lists.specs.Lists.{columns_in, number_limit}

pub digits_low : (n x h : ℕ) → x < 2 ^ n → digit (bit x) h < 2 ^ columns_in n h
digits_low n x h low = ⊎_elim
    (λ (l : n < width * h + width). rw (lt-leb (width * h + width) n l)
    (bit_few width (n - width * h) (digit (bit x) h) (digit_lt (bit x) h) (λ b k m. digit_bit (bit x) h b m ∙ bit_above n x (width * h + b) low (omega arith))))
    (λ (l : width * h + width ≤ n). rw (le-leb (width * h + width) n l) (digit_lt (bit x) h))
    (lt_or_le n (width * h + width))

pub low_digits : (n x : ℕ) → x < 2 ^ size → ((h : ℕ) → h < wide → digit (bit x) h < 2 ^ columns_in n h) → x < 2 ^ n
low_digits n x low each = bit_few size n x low (λ b l m.
    let h = b / width in
    let same : width * h + b % width ≡ b = omega arith in
    let past : n < width * h + width = omega arith in
    let bits : digit (bit x) h < 2 ^ (n - width * h) = rw (lt-leb (width * h + width) n past) at (each h (omega arith)) in
    ap (bit x) (sym same) ∙ sym (digit_bit (bit x) h (b % width) (omega arith)) ∙ bit_above (n - width * h) (digit (bit x) h) (b % width) bits (omega arith))

-- the columns that row a may have: those below N, and none from row N on
abbrev pub columns_of : ℕ → ℕ → ℕ
columns_of n a = cond (ltb a n) n 0

pub limit_is : (n i : ℕ) → number_limit n i ≡ 2 ^ columns_in (columns_of n (i % area / wide)) (i % area % wide)
limit_is n i =
    let a = i % area / wide in
    let h = i % area % wide in
    let some : 0 < width * h + width = omega arith in
    let none : 0 - width * h ≡ 0 = omega arith in
    ⊎_elim (λ (l : a < n). rw (lt-ltb a n l)) (λ (l : n ≤ a). rw (le-ltb a n l, lt-leb (width * h + width) 0 some, none)) (lt_or_le a n)
