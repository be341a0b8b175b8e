-- `records::row`: no bit from column n on is: below 2 to the n.
use Rattle.std.proofs.Common.{◌≡◌, ℕ, ◌^◌, ◌<◌, ◌≤◌, List, Bool, true, false, not, ◌&&◌, ltb, sym, ◌∙◌, ⊎_elim, arith, lt-ltb, le-ltb, lt_of_lt_of_le}
use mathlib.Core.Bool.{true≢false, and-not_self}
use Rattle.std.proofs.Math.Nat.{pow-le-pow_right}
use Rattle.rows.proofs.Laws.Bits.{bit_above, bit_few}
use Rattle.rows.proofs.Laws.Loops.{collect_done}
use Rattle.rows.proofs.Laws.Quantifiers.{any_none, any_no}
use Rattle.rows.specs.Laws.Truth.{test, lt_or_le}
use Rattle.rows.specs.Numbers.{bit, size, has}
use Rattle.rows.specs.Sets.{Set, any, less, before}
use Rattle.rows.specs.declared.Row.{Row}
use Rattle.drawing.specs.Files.{row_bytes, row_in, row_check}
use Rattle.drawing.proofs.Laws.LittleEndian.{Bytes, le_below}
use Rattle.drawing.specs.Laws.Sizes.{rows_most}
use Rattle.drawing.proofs.records.row.Goals as goal

-- nothing is left of p: it is not there
gone : (p : Bool) → (p && not (p && false)) ≡ false → p ≡ false
gone true e = absurd (true≢false e)
gone false e = e

module _ (n x : ℕ) (few : n ≤ size) (fits : x < 2 ^ size) where
  abbrev past : Set
  past = less (bit x) (before (bit x) n)

  none_past : any size past ≡ false → x < 2 ^ n
  none_past e = bit_few size n x fits (λ b l m. gone (bit x b) (rw (le-ltb b n l) at (any_no size past e b m)))

  low_only : not (any size past) ≡ ltb x (2 ^ n)
  low_only = ⊎_elim
      (λ (l : x < 2 ^ n). rw (lt-ltb x (2 ^ n) l, collect_done (bit x) n (λ b m. bit_above n x b l m), any_none size (λ b. bit x b && not (bit x b)) (λ b m. and-not_self (bit x b))))
      (λ (l : 2 ^ n ≤ x). rw (le-ltb x (2 ^ n) l) (⊎_elim (λ some. rw some) (λ e. absurd (omega (arith, none_past e))) (test (any size past))))
      (lt_or_le x (2 ^ n))

-- a row that loses nothing to its members below n has none from n on
row_told : (s : List ℕ) → Bytes s → (n at a : ℕ) → n ≤ size → (x low past : Row) (r : Bool) → r ≡ not (any size (has past)) → has past ≡ less (has x) (has low) → has low ≡ before (has x) n → has x ≡ bit (row_in s n at a) → ltb (row_in s n at a) (2 ^ n) ≡ r
row_told s known n at a few x low past r is over below read =
    let v = row_in s n at a in
    let fits : v < 2 ^ size = lt_of_lt_of_le (le_below s known _ (row_bytes n)) (pow-le-pow_right {n = 256} (omega arith) {j = 16} (rows_most n 1)) in
    sym (is ∙ rw (over, below, read) (low_only n v few fits))

pub returns : goal.returns
unfolding row_check
returns c =
    let a = c.args in
    c.unless.ensures
    ∙ rw (row_told a.s.now (λ i. omega (arith, c.type_inv.s i)) a.n a.at a.a (omega arith) _ _ _ _ c.is_empty.ensures c.minus.ensures c.before-2.ensures (c.row-x.ensures ∙ rw c.row.ensures))
