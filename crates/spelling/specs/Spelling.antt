-- The lines of a text drawing: how each is written, and what each is read as. Definitions only.
-- A line is read liberally, numbers and words as they come; whether it is, byte for byte, the line that would be written of what was read is tested afterwards.
use Rattle.std.specs.Prelude.{ℕ, ◌+◌, ◌*◌, ◌-◌, Bool, true, false, not, cond, ◌&&◌, List, [], ◌∷◌, ◌++◌, ltb, leb, eqb, length, drop}
use Rattle.model.specs.declared.Action.{Action}
use Rattle.model.specs.Actions.{kind_number, order_in}
use Rattle.model.specs.Limits.{most_actions}
use Rattle.model.specs.Candidates.{among}
use Rattle.page.specs.Lines.{ascii, space, newline, decimal, line}
use Rattle.drawing.specs.Files.{kind_of}
use Rattle.spelling.specs.declared.Number.{Number}

-- ---- the lines

-- First line `drawing` and edition, N, T, P;
abbrev pub header_line : ℕ → ℕ → ℕ → ℕ → List ℕ
header_line e n t p = line (ascii "drawing") (e ∷ n ∷ t ∷ p ∷ [])

-- then places as `mutex`, `plain` or `atomic`;
unfoldable pub place_line : ℕ → List ℕ
place_line k = cond (eqb k 0) (ascii "mutex\n") (cond (eqb k 1) (ascii "plain\n") (ascii "atomic\n"))

-- then actions as `lock`, `unlock`, `aload`, `astore`, `rmw`, `load`, `store` or `fence`,
unfoldable pub kind_word : ℕ → List ℕ
kind_word k =
    cond (eqb k 1) (ascii "lock")
    (cond (eqb k 2) (ascii "unlock")
    (cond (eqb k 3) (ascii "aload")
    (cond (eqb k 4) (ascii "astore")
    (cond (eqb k 5) (ascii "rmw")
    (cond (eqb k 6) (ascii "load")
    (cond (eqb k 7) (ascii "store") (ascii "fence")))))))

-- Orders are spelled as in the paper's list; a kind without an order has no word.
unfoldable pub order_word : ℕ → List ℕ
order_word o =
    cond (eqb o 1) (ascii " relaxed")
    (cond (eqb o 2) (ascii " consume")
    (cond (eqb o 3) (ascii " acquire")
    (cond (eqb o 4) (ascii " release")
    (cond (eqb o 5) (ascii " acq_rel")
    (cond (eqb o 6) (ascii " seq_cst") [])))))

-- what a kind has, by its number: all but a fence a place; atomic actions and fences an order; reads a value read, writes a value written
abbrev pub has_place : ℕ → Bool
has_place k = not (among k (8 ∷ []))

abbrev pub has_order : ℕ → Bool
has_order k = among k (3 ∷ 4 ∷ 5 ∷ 8 ∷ [])

abbrev pub has_read : ℕ → Bool
has_read k = among k (3 ∷ 5 ∷ 6 ∷ [])

abbrev pub has_written : ℕ → Bool
has_written k = among k (4 ∷ 5 ∷ 7 ∷ [])

-- a number after a space, where the kind has it
unfoldable pub part : Bool → ℕ → List ℕ
part has n = cond has (space ∷ decimal n) []

-- with thread, place, order word, value read and value written, each where the kind has it, such as `store 1 0 1`;
unfoldable pub action_line : Action → List ℕ
action_line x =
    let k = kind_number x.what in
    kind_word k ++ (part true x.thread ++ (part (has_place k) x.place ++ (order_word (order_in x.what) ++ (part (has_read k) x.read ++ (part (has_written k) x.written ++ (newline ∷ []))))))

unfoldable pub relation_word : ℕ → List ℕ
relation_word k =
    cond (eqb k 0) (ascii "sb")
    (cond (eqb k 1) (ascii "asw")
    (cond (eqb k 2) (ascii "dd")
    (cond (eqb k 3) (ascii "cd")
    (cond (eqb k 4) (ascii "rf")
    (cond (eqb k 5) (ascii "sc") (ascii "mo"))))))

-- then edges, such as `rf 3 4`,
unfoldable pub edge_line : ℕ → ℕ → ℕ → List ℕ
edge_line k a b = line (relation_word k) (a ∷ b ∷ [])

-- edges in their order: by relation, then a, then b, as numbers
abbrev pub turn : ℕ → ℕ → ℕ → ℕ
turn k a b = most_actions * (most_actions * k + a) + b

-- then `end`.
abbrev pub end_line : List ℕ
end_line = ascii "end\n"

-- ---- what stands where

unfoldable pub starts : List ℕ → List ℕ → Bool
starts [] s = true
starts (x ∷ u) [] = false
starts (x ∷ u) (y ∷ s) = eqb x y && starts u s

-- u stands in s at q
abbrev pub stands : List ℕ → ℕ → List ℕ → Bool
stands s q u = starts u (drop q s)

-- the place after a word that stands at q
unfoldable pub word_end : List ℕ → ℕ → List ℕ → ℕ
word_end s q u = cond (stands s q u) (q + length u) q

-- ---- numbers

abbrev pub digit : ℕ → Bool
digit d = leb 48 d && leb d 57

-- d makes the number x longer: it is a digit, and x is not too large already
unfoldable pub longer : ℕ → ℕ → Bool
longer x d = digit d && ltb x 4294967296

-- the number that the digits in front make after x, and where it ends
unfoldable pub scan : ℕ → ℕ → List ℕ → Number
scan x q [] = record { value = x; next = q }
scan x q (d ∷ ds) = cond (longer x d) (scan (x * 10 + (d - 48)) (q + 1) ds) (record { value = x; next = q })

abbrev pub number_at : List ℕ → ℕ → Number
number_at s q = scan 0 q (drop q s)

-- the number after one byte, where there is to be one; else `none`
unfoldable pub field_at : List ℕ → Bool → ℕ → ℕ → Number
field_at s has none q = cond (has && ltb q (length s)) (number_at s (q + 1)) (record { value = none; next = q })

-- a number that isn't below the most is read as 0
unfoldable pub clipped : ℕ → ℕ → ℕ
clipped most x = cond (ltb x most) x 0

-- ---- what a line is read as

-- the numbers of the first line, which follow the 7 bytes of its word
abbrev pub edition_number : List ℕ → Number
edition_number s = field_at s true 0 7

abbrev pub actions_number : List ℕ → Number
actions_number s = field_at s true 0 (edition_number s).next

abbrev pub threads_number : List ℕ → Number
threads_number s = field_at s true 0 (actions_number s).next

abbrev pub places_number : List ℕ → Number
places_number s = field_at s true 0 (threads_number s).next

abbrev pub edition_in : List ℕ → ℕ
edition_in s = (edition_number s).value

abbrev pub actions_in : List ℕ → ℕ
actions_in s = (actions_number s).value

abbrev pub threads_in : List ℕ → ℕ
threads_in s = (threads_number s).value

abbrev pub places_in : List ℕ → ℕ
places_in s = (places_number s).value

abbrev pub header : List ℕ → List ℕ
header s = header_line (edition_in s) (actions_in s) (threads_in s) (places_in s)

-- the place whose line stands at q; where none does, the last
unfoldable pub place_at : List ℕ → ℕ → ℕ
place_at s q = cond (stands s q (place_line 0)) 0 (cond (stands s q (place_line 1)) 1 2)

-- the kind whose word stands at q; where none does, the last
unfoldable pub kind_at : List ℕ → ℕ → ℕ
kind_at s q =
    cond (stands s q (kind_word 1)) 1
    (cond (stands s q (kind_word 2)) 2
    (cond (stands s q (kind_word 3)) 3
    (cond (stands s q (kind_word 4)) 4
    (cond (stands s q (kind_word 5)) 5
    (cond (stands s q (kind_word 6)) 6
    (cond (stands s q (kind_word 7)) 7 8))))))

-- the order whose word stands at q; where none does, 0
unfoldable pub order_at : List ℕ → ℕ → ℕ
order_at s q =
    cond (stands s q (order_word 1)) 1
    (cond (stands s q (order_word 2)) 2
    (cond (stands s q (order_word 3)) 3
    (cond (stands s q (order_word 4)) 4
    (cond (stands s q (order_word 5)) 5
    (cond (stands s q (order_word 6)) 6 0)))))

-- the action whose line stands at q
unfoldable pub action_read : List ℕ → ℕ → Action
action_read s q =
    let k = kind_at s q in
    let thread = field_at s true 0 (word_end s q (kind_word k)) in
    let place = field_at s (has_place k) 65535 thread.next in
    let o = cond (has_order k) (order_at s place.next) 0 in
    let read = field_at s (has_read k) 0 (word_end s place.next (order_word o)) in
    let written = field_at s (has_written k) 0 read.next in
    record {
      what = kind_of k o;
      thread = clipped 65536 thread.value;
      place = clipped 65536 place.value;
      read = clipped 4294967296 read.value;
      written = clipped 4294967296 written.value;
    }
