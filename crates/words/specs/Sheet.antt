-- The words by kind and by place; and the sheet: what is noted of each action, in five parts of one number to an action.
use Rattle.std.specs.Prelude.{ℕ, ◌+◌, ◌*◌, ◌<◌, false, not, ◌&&◌, cond, List, ◌≡◌, eqb, ltb, get_or}
use Rattle.rows.specs.Sets.{Set, Rel, any, when, single, before}
use Rattle.rows.specs.Numbers.{bit, width, size}
use Rattle.model.specs.Actions.{order_number, no_action}
use Rattle.model.specs.Candidates.{is_fence}
use Rattle.model.specs.Words.{word, place_kind}
use Rattle.model.specs.declared.Action.{Action}
use Rattle.model.specs.declared.ActionKind.{ActionKind}
use Rattle.model.specs.declared.ActionKind.TheVariants.{Lock, Unlock, AtomicLoad, AtomicStore, ReadModifyWrite, Load, Store, Fence}

-- the kinds that have no order, then six orders to a kind
abbrev pub kind_index : ActionKind → ℕ
kind_index Lock = 0
kind_index Unlock = 1
kind_index Load = 2
kind_index Store = 3
kind_index (AtomicLoad m) = 3 + order_number m
kind_index (AtomicStore m) = 9 + order_number m
kind_index (ReadModifyWrite m) = 15 + order_number m
kind_index (Fence m) = 21 + order_number m

-- words 13, 14, 15: at a mutex, at a non-atomic place, at an atomic place
abbrev pub place_words : ℕ → Set
place_words q = when (ltb q 3) (single (13 + q))

-- numbers of the sheet
abbrev pub sheet_length : ℕ
sheet_length = size * 5

-- number a of part k
abbrev pub note : List ℕ → ℕ → ℕ → ℕ
note s k a = get_or s (size * k + a) 0

-- number a of part k becomes v, all else stays
abbrev pub noted : ℕ → ℕ → ℕ → (ℕ → ℕ → ℕ) → ℕ → ℕ → ℕ
noted k a v old j b = cond (eqb b a && eqb j k) v (old j b)

-- The numbers of an action at a place of kind q, part by part: the bits of the first three are its words, its place (a fence has none) and its thread; then the value that it reads and the value that it writes.
pub record Noted (x : Action) (q : ℕ) (part : ℕ → ℕ) : Type 0 where
  pub words : bit (part 0) ≡ (λ w. word w x q)
  pub place : bit (part 1) ≡ when (not (is_fence x)) (single x.place)
  pub thread : bit (part 2) ≡ single x.thread
  pub read : part 3 ≡ x.read
  pub written : part 4 ≡ x.written

-- its place and its thread have room in a number
pub record Small (x : Action) : Type 0 where
  pub low_place : is_fence x ≡ false → x.place < width
  pub low_thread : x.thread < width

-- the slice s holds the numbers of the first n actions, whatever stands after them
pub record Sheet (n : ℕ) (acts : List Action) (places : List ℕ) (s : List ℕ) : Type 0 where
  pub notes : (a : ℕ) → a < n → Noted (get_or acts a no_action) (place_kind n acts places a) (λ k. note s k a)
  pub small : (a : ℕ) → a < n → Small (get_or acts a no_action)

-- of some actions at some places
abbrev pub Sheeted : ℕ → List ℕ → Type 0
Sheeted n s = (acts : List Action) × (places : List ℕ) × Sheet n acts places s

-- ---- what the sheet gives

-- row p: the actions below n whose number in part k has bit p
abbrev pub bit_rows : ℕ → List ℕ → ℕ → Rel
bit_rows n s k p = before (λ a. bit (note s k a) p) n

-- row q: the actions below n at place q; a fence has none
abbrev pub at_place : ℕ → List Action → Rel
at_place n acts q = before (λ a. not (is_fence (get_or acts a no_action)) && eqb q (get_or acts a no_action).place) n

-- the numbers of a and b in part k have a bit in common
abbrev pub meets : List ℕ → ℕ → Rel
meets s k a b = any size λ p. bit (note s k a) p && bit (note s k b) p

-- a and b write one number
abbrev pub same_written : List ℕ → Rel
same_written s a b = eqb (note s 4 a) (note s 4 b)

-- what a writes is what b reads
abbrev pub same_number : List ℕ → Rel
same_number s a b = eqb (note s 4 a) (note s 3 b)
