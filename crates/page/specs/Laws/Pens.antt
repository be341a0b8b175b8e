-- Laws of texts that a pen writes one after another.
use Rattle.std.specs.Prelude.{ℕ, List, [], ◌∷◌, ◌++◌, ◌≡◌, refl}
use Rattle.std.proofs.Common.{append_assoc, sym, ap}
use Rattle.std.proofs.lemmas.List.{take_more, drop_more, drop_all}
use Rattle.page.specs.Page.{Page, Wrote, stamp, write}
use Rattle.page.specs.Lines.{space, newline, decimal, ending, lines}
use Rattle.page.specs.Pens.{under, on, penned}
use Rattle.page.specs.declared.Pen.{Pen}
use Rattle.page.specs.Laws.Pages.{write_append}

-- what it wrote is written on its page, byte after byte
pub wrote_penned : (p : Pen) (text : List ℕ) → Wrote p.most (under p) text (under (penned p text))
unfolding penned
wrote_penned p text = record { is = refl }

-- it stays on its buffer
pub penned_name : (p : Pen) (text : List ℕ) → (penned p text).out.ghost_name ≡ p.out.ghost_name
unfolding penned
penned_name p text = refl

pub penned_byte : (p : Pen) (b : ℕ) {q : Page} → q ≡ stamp p.most (under p) b → on p q ≡ penned p (b ∷ [])
unfolding penned write
penned_byte p b e = ap (on p) e

pub penned_nothing : (p : Pen) → penned p [] ≡ p
unfolding penned write
penned_nothing p = refl

-- one text after another
pub penned_then : (p : Pen) (v w : List ℕ) → penned (penned p v) w ≡ penned p (v ++ w)
unfolding penned
penned_then p v w = ap (on p) (sym (write_append p.most (under p) v w))

pub byte_then : (p : Pen) (b : ℕ) (w : List ℕ) → penned (penned p (b ∷ [])) w ≡ penned p (b ∷ w)
byte_then p b w = penned_then p (b ∷ []) w

-- ---- what loops over a list write

pub ending_none : ending [] ≡ newline ∷ []
unfolding ending
ending_none = refl

pub ending_next : (n : ℕ) (ns : List ℕ) → ending (n ∷ ns) ≡ space ∷ (decimal n ++ ending ns)
unfolding ending
ending_next n ns = refl

pub lines_none : {A : Type 0} (f : A → List ℕ) → lines f [] ≡ []
unfolding lines
lines_none f = refl

pub lines_next : {A : Type 0} (f : A → List ℕ) (x : A) (xs : List A) → lines f (x ∷ xs) ≡ f x ++ lines f xs
unfolding lines
lines_next f x xs = refl

-- what `grind` needs, to prove a function whose calls write one text after another, or its loop over a list
pub ruleset pens = (wrote_penned, penned_name, penned_nothing, penned_then, byte_then, append_assoc, ending_none, ending_next, lines_none, lines_next, take_more, drop_more, drop_all)
