-- A text read digit by digit: after the number so far, what is left decides what the text is. And how long a line with a number can be.
use Rattle.std.specs.Prelude.{ℕ, ◌+◌, ◌*◌, ◌-◌, ◌^◌, ◌<◌, ◌≤◌, ◌&&◌, cond, List, [], ◌∷◌, ◌⊎◌, ◌≡◌, ltb, length, drop, get_or, None, Option, Some}
use Rattle.std.proofs.Math.Bool.{and-false}
use Rattle.std.proofs.Common.{inl, inr, le_refl, add-one, arith, length-append, drop_of_length-le}
use Rattle.std.proofs.Math.Seq.{drop-cons}
use borrow.Author.Tests.{lt-ltb, le-ltb, le-leb, lt-leb}
use Rattle.page.specs.Lines.{decimal, ending, line}
use Rattle.page.specs.Laws.Lengths.{decimal_length}
use Rattle.report.specs.Report.{longest_report, Roomy}
use Rattle.clerk.specs.Numbers.{digits_only, value_after, number_of}

-- the number that digits make after a number v
unfoldable pub number_after : ℕ → List ℕ → Option ℕ
number_after v text = cond (digits_only text && ltb (value_after v text) (2 ^ 64)) (Some (value_after v text)) None

-- no digit makes a number smaller
value_grows : (v : ℕ) (text : List ℕ) → v ≤ value_after v text
unfolding value_after
value_grows v [] = le_refl v
value_grows v (b ∷ text) = omega (arith, value_grows (10 * v + (b - 48)) text)

-- ---- where reading begins

pub nothing_read : (text : List ℕ) → length text ≡ 0 → number_of text ≡ None
unfolding number_of
nothing_read text e = rw e

pub reading_starts : (text : List ℕ) → 0 < length text → number_of text ≡ number_after 0 text
unfolding number_of number_after
reading_starts text h = rw (lt-ltb 0 (length text) h)

-- ---- at a byte, with the number v before it

module _ (v : ℕ) (text : List ℕ) (i : ℕ) (inside : i < length text) where
  abbrev b : ℕ
  b = get_or text i 0

  pub digit_read : 48 ≤ b → b ≤ 57 → number_after v (drop i text) ≡ number_after (10 * v + (b - 48)) (drop (i + 1) text)
  unfolding number_after digits_only value_after
  digit_read low high = rw (add-one i, drop-cons text i 0 inside, le-leb 48 b low, le-leb b 57 high)

  pub stray_read : (b < 48) ⊎ (57 < b) → number_after v (drop i text) ≡ None
  unfolding number_after digits_only
  stray_read (inl low) = rw (drop-cons text i 0 inside, lt-leb 48 b low)
  stray_read (inr high) = rw (drop-cons text i 0 inside, lt-leb b 57 high, and-false)

-- ---- where reading ends

-- a number that is too large stays so
pub too_large : (v : ℕ) (text : List ℕ) → 2 ^ 64 ≤ v → number_after v text ≡ None
unfolding number_after
too_large v text h = rw (le-ltb (value_after v text) (2 ^ 64) (omega (arith, value_grows v text)), and-false)

pub all_read : (v : ℕ) (text : List ℕ) (i : ℕ) → length text ≤ i → v < 2 ^ 64 → number_after v (drop i text) ≡ Some v
unfolding number_after digits_only value_after
all_read v text i past h = rw (drop_of_length-le text past, lt-ltb v (2 ^ 64) h)

-- ---- lines that are told

-- a short word and a number of 64 bits make no line longer than the longest report
pub counted_length : (word : List ℕ) (n : ℕ) → length word ≤ 9 → n < 2 ^ 64 → length (line word (n ∷ [])) ≤ longest_report
unfolding ending
counted_length word n short h =
    omega (arith, length-append word (ending (n ∷ [])), length-append (decimal n) (ending []), decimal_length 19 n (omega arith))

-- what an answer tells of the room of a buffer as long as the longest report
pub roomy : {room : ℕ} {r : Option ℕ} → Roomy room r → room ≡ longest_report → Roomy longest_report r
roomy h e = rw e at h
