-- A pen, and what it wrote. Definitions only.
use Rattle.std.specs.Prelude.{ℕ, List}
use Rattle.std.specs.Borrow.{MutBor}
use Rattle.page.specs.Page.{Page, page, write}
use Rattle.page.specs.declared.Pen.{Pen}

-- a pen at the start of a lent buffer
abbrev pub started : MutBor (List ℕ) → ℕ → Pen
started out most = record { out = out; most = most; at = 0 }

-- the page under a pen: its buffer as it stands, and the place of the next byte
abbrev pub under : Pen → Page
under p = page p.out.now p.at

-- the same pen on another page
abbrev pub on : Pen → Page → Pen
on p q = record p { out = record p.out { now = q.bytes }; at = q.at }

-- the pen after it wrote the text
unfoldable pub penned : Pen → List ℕ → Pen
penned p text = on p (write p.most (under p) text)
