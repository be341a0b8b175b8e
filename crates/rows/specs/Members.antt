-- Loops over the members of a row, lowest first: what is left of them, what a call of the iterator gives, and what a loop gathers.
use Rattle.std.specs.Prelude.{ℕ, ◌<◌, true, false, ◌≡◌, cond, Option, MatchOption}
use Rattle.rows.specs.Numbers.{size, has}
use Rattle.rows.specs.Sets.{Set, Rel, any, least, when, without, image}
use Rattle.rows.specs.declared.Members.{Members}
use Rattle.rows.specs.declared.Row.{Row}

-- a is the least of s, and t has the others
pub record TakesLeast (s : Set) (a : ℕ) (t : Set) : Type 0 where
  pub some : any size s ≡ true
  pub first : a ≡ least size s
  pub others : t ≡ without s (least size s)

-- a call gave the least of s and left the others; or there was none, and none is left
abbrev pub GivesLeast : Set → Option ℕ → Set → Type 0
GivesLeast s r t = MatchOption r ((any size s ≡ false) × (t ≡ s)) (λ a. TakesLeast s a t)

-- the members that are still to come
abbrev pub members_left : Members → Set
members_left m = has m.row

-- where each call, at a number a, gives what r leads to from a, all is what r leads to from the members of s
abbrev pub Gathers : (ℕ → Row → Type 0) → Set → Row → Type 0
Gathers gives s all = (r : Rel) → ((a : ℕ) (x : Row) → a < size → gives a x → has x ≡ r a) → has all ≡ image size s r

-- old where the rows of s have become those of r
abbrev pub placed : Rel → Set → Rel → Rel
placed r s old a = cond (s a) (r a) (old a)

-- where each call, at a member a of s, gives row a of r, what is filled is r from the members of s
abbrev pub Fills : (ℕ → Row → Type 0) → Set → Rel → Type 0
Fills gives s filled = (r : Rel) → ((a : ℕ) (x : Row) → s a ≡ true → gives a x → has x ≡ r a) → filled ≡ (λ a. when (s a) (r a))
