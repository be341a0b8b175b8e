-- How bytes get onto a page one by one. Definitions only.
use Rattle.std.specs.Prelude.{ℕ, ◌+◌, Bool, ◌&&◌, cond, List, [], ◌∷◌, ◌++◌, ◌≡◌, ltb, leb, length, set, drop, None, Option, Some}

-- the bytes of a buffer, and the place of the next one
pub record Page : Type 0 where
  pub bytes : List ℕ
  pub at : ℕ

abbrev pub page : List ℕ → ℕ → Page
page bytes at = record { bytes = bytes; at = at }

-- One byte more: the place never passes `most`, and past the buffer's end nothing is stored.
unfoldable pub stamp : ℕ → Page → ℕ → Page
stamp most p b = cond (ltb p.at most) (page (set p.bytes p.at b) (p.at + 1)) p

-- a text, byte after byte
unfoldable pub write : ℕ → Page → List ℕ → Page
write most p [] = p
write most p (b ∷ text) = write most (stamp most p b) text

-- the text was written, from page p on, and made page q of it
pub record Wrote (most : ℕ) (p : Page) (text : List ℕ) (q : Page) : Type 0 where
  pub is : q ≡ write most p text

-- ---- what is promised of a buffer

-- a text may be given, and it fits
abbrev pub whole : Bool → List ℕ → List ℕ → Bool
whole given text old = given && leb (length text) (length old)

-- A text that may be given and that fits stands at the buffer's start, the rest is kept, and the answer is its length; otherwise the buffer is kept whole and the answer is None.
pub record Offered (given : Bool) (text old new : List ℕ) (r : Option ℕ) : Type 0 where
  pub answer : r ≡ cond (whole given text old) (Some (length text)) None
  pub buffer : new ≡ cond (whole given text old) (text ++ drop (length text) old) old
