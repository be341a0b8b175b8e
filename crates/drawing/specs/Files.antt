-- The drawing file, record by record in the paper's order: where a record stands, what it is decoded to, its check, and how it is written. Definitions only.
use Rattle.std.specs.Prelude.{ℕ, zero, suc, ◌+◌, ◌*◌, ◌/◌, ◌%◌, ◌^◌, Bool, true, cond, ◌&&◌, ◌||◌, List, [], ◌∷◌, ◌++◌, ◌≡◌, ltb, eqb, length, get_or, take, drop, Ok, Err}
use Rattle.rows.specs.Numbers.{bit, listed, joined, width}
use Rattle.model.specs.declared.Action.{Action}
use Rattle.model.specs.declared.MemoryOrder.{MemoryOrder}
use Rattle.model.specs.declared.MemoryOrder.TheVariants.{Relaxed, Consume, Acquire, Release, AcqRel, SeqCst}
use Rattle.model.specs.declared.ActionKind.{ActionKind}
use Rattle.model.specs.declared.ActionKind.TheVariants.{Lock, Unlock, AtomicLoad, AtomicStore, ReadModifyWrite, Load, Store, Fence}
use Rattle.model.specs.Actions.{kind_number, order_in, no_action}
use Rattle.model.specs.Limits.{newest_edition, most_actions, most_threads, most_places, given_relations, store_length, order_length}
use Rattle.model.specs.Candidates.{Candidate, given, edition_ok, action_ok, place_byte_ok, to_others, well_formed, Within, Valued}
use Rattle.model.specs.declared.refusals.Reason.TheVariants.{EndsEarly, WrongKind, WrongLength, UnknownEdition, AboveLimit, BadField, BadColumn, BytesAfterEnd, ShortBuffer, OwnThread}
use Rattle.model.specs.Refusals.{Checked, Good, Passed, Refused, Walk}

-- ---- all numbers little-endian

-- the number in the w bytes from at, least byte first
unfoldable pub le_at : List ℕ → ℕ → ℕ → ℕ
le_at s at zero = 0
le_at s at (suc w) = le_at s (at + 1) w * 256 + get_or s at 0

-- x in w bytes, least byte first
unfoldable pub le : ℕ → ℕ → List ℕ
le zero x = []
le (suc w) x = x % 256 ∷ le w (x / 256)

-- ---- a check: what its parts find, in their order

-- one part and then the next: a refusal of the first is the answer
abbrev pub then : Walk → Walk → Walk
then (Ok _) w = w
then (Err r) w = Err r

-- the same part for m numbers from i on
unfoldable pub walks : (ℕ → Walk) → ℕ → ℕ → Walk
walks f i zero = Passed
walks f i (suc m) = then (f i) (walks f (i + 1) m)

-- ---- every record: length of payload (u16), kind (u16), payload

-- four head bytes (1), kind (2), length (3), payload present (1)
unfoldable pub head_check : List ℕ → ℕ → ℕ → ℕ → Walk
head_check s at kind len =
    cond (ltb (length s) (at + 4)) (Refused EndsEarly at)
    (cond (eqb (le_at s (at + 2) 2) kind)
    (cond (eqb (le_at s at 2) len)
    (cond (ltb (length s) (at + 4 + len)) (Refused EndsEarly at) Passed)
    (Refused WrongLength at))
    (Refused WrongKind at))

unfoldable pub head_of : ℕ → ℕ → List ℕ
head_of kind len = le 2 len ++ le 2 kind

-- ---- kind 1, payload 8: edition, actions N, threads T, places P, each u16

abbrev pub edition_in : List ℕ → ℕ
edition_in s = le_at s 4 2

abbrev pub actions_in : List ℕ → ℕ
actions_in s = le_at s 6 2

abbrev pub threads_in : List ℕ → ℕ
threads_in s = le_at s 8 2

abbrev pub places_in : List ℕ → ℕ
places_in s = le_at s 10 2

-- edition none of 1 to the newest that a build knows (4)
unfoldable pub edition_check : ℕ → List ℕ → Walk
edition_check newest s = cond (edition_ok newest (edition_in s)) Passed (Refused UnknownEdition 0)

-- N, T or P above its limit (5)
unfoldable pub limits_check : List ℕ → Walk
limits_check s =
    cond (ltb most_actions (actions_in s)) (Refused AboveLimit 0)
    (cond (ltb most_threads (threads_in s)) (Refused AboveLimit 0)
    (cond (ltb most_places (places_in s)) (Refused AboveLimit 0) Passed))

unfoldable pub header_check : ℕ → List ℕ → Walk
header_check newest s = then (head_check s 0 1 8) (then (edition_check newest s) (limits_check s))

unfoldable pub header_of : ℕ → ℕ → ℕ → ℕ → List ℕ
header_of e n t p = head_of 1 8 ++ (le 2 e ++ (le 2 n ++ (le 2 t ++ le 2 p)))

-- ---- kind 2, payload P: a byte per place

-- the record stands at 12, its bytes from 16 on
abbrev pub place_bytes : ℕ
place_bytes = 16

-- a byte: 0, 1 or 2 (6)
unfoldable pub place_check : List ℕ → ℕ → Walk
place_check s i = cond (place_byte_ok (get_or s (place_bytes + i) 0)) Passed (Refused BadField 12)

unfoldable pub places_check : List ℕ → ℕ → Walk
places_check s p = then (head_check s 12 2 p) (walks (place_check s) 0 p)

unfoldable pub places_of : ℕ → List ℕ → List ℕ
places_of p places = head_of 2 p ++ places

-- ---- kind 3, payload 16, N times: action kind u8, order u8, thread u16, place u16, zero u16, value read u32, value written u32

-- action i of N, 20 bytes each
abbrev pub action_at : ℕ → ℕ → ℕ
action_at p i = place_bytes + p + 20 * i

-- the order with a number; numbers of no order give the last
unfoldable pub order_of : ℕ → MemoryOrder
order_of o =
    cond (eqb o 1) Relaxed
    (cond (eqb o 2) Consume
    (cond (eqb o 3) Acquire
    (cond (eqb o 4) Release
    (cond (eqb o 5) AcqRel SeqCst))))

-- the kind with a number and an order's number; numbers of no kind give the last
unfoldable pub kind_of : ℕ → ℕ → ActionKind
kind_of k o =
    cond (eqb k 1) Lock
    (cond (eqb k 2) Unlock
    (cond (eqb k 3) (AtomicLoad (order_of o))
    (cond (eqb k 4) (AtomicStore (order_of o))
    (cond (eqb k 5) (ReadModifyWrite (order_of o))
    (cond (eqb k 6) Load
    (cond (eqb k 7) Store (Fence (order_of o))))))))

unfoldable pub action_of : List ℕ → ℕ → Action
action_of s at =
    record {
      what = kind_of (get_or s (at + 4) 0) (get_or s (at + 5) 0);
      thread = le_at s (at + 6) 2;
      place = le_at s (at + 8) 2;
      read = le_at s (at + 12) 4;
      written = le_at s (at + 16) 4;
    }

-- action i, where there is one
abbrev pub recorded : List ℕ → ℕ → ℕ → Action
recorded s p i = action_of s (action_at p i)

-- action i of n, and what stands past the end of the actions
unfoldable pub action_no : List ℕ → ℕ → ℕ → ℕ → Action
action_no s n p i = cond (ltb i n) (recorded s p i) no_action

-- k and o are the numbers of a kind and of the order that it carries
unfoldable pub kind_ok : ℕ → ℕ → Bool
kind_ok k o = eqb (kind_number (kind_of k o)) k && eqb (order_in (kind_of k o)) o

-- kind and order have numbers, and the zero is zero
unfoldable pub fields_ok : List ℕ → ℕ → Bool
fields_ok s at = kind_ok (get_or s (at + 4) 0) (get_or s (at + 5) 0) && eqb (le_at s (at + 10) 2) 0

-- a field breaks the rules, thread ≥ T, place ≥ P (6)
unfoldable pub action_check : List ℕ → ℕ → ℕ → ℕ → Walk
action_check s t p at =
    then (head_check s at 3 16) (cond (fields_ok s at && action_ok t p (action_of s at)) Passed (Refused BadField at))

unfoldable pub actions_check : List ℕ → ℕ → ℕ → ℕ → Walk
actions_check s n t p = walks (λ i. action_check s t p (action_at p i)) 0 n

unfoldable pub action_record : Action → List ℕ
action_record x =
    head_of 3 16 ++ (le 1 (kind_number x.what) ++ (le 1 (order_in x.what) ++ (le 2 x.thread ++ (le 2 x.place ++ (le 2 0 ++ (le 4 x.read ++ le 4 x.written))))))

-- ---- kind 4, payload 2+8N, above 64 actions 2+16N, 7 times: relation number u16, N rows of 64 bits, above 64 actions of 128

-- bytes of a row: 8 up to 64 actions, 16 above, low half first
abbrev pub row_bytes : ℕ → ℕ
row_bytes n = cond (ltb width n) 16 8

-- of the first a rows
abbrev pub rows_length : ℕ → ℕ → ℕ
rows_length n a = cond (ltb width n) (16 * a) (8 * a)

-- relation k of 7, each a head, its number and N rows
abbrev pub relation_at : ℕ → ℕ → ℕ → ℕ
relation_at n p k = action_at p n + (6 + rows_length n n) * k

-- row a of the relation record at `at`: its place, and its number
abbrev pub row_at : ℕ → ℕ → ℕ → ℕ
row_at n at a = at + 6 + rows_length n a

abbrev pub row_in : List ℕ → ℕ → ℕ → ℕ → ℕ
row_in s n at a = le_at s (row_at n at a) (row_bytes n)

-- row a of relation k; rows from N on are zero
unfoldable pub row_no : List ℕ → ℕ → ℕ → ℕ → ℕ → ℕ
row_no s n p k a = cond (ltb a n) (row_in s n (relation_at n p k) a) 0

-- the rows of relation k
abbrev pub rows_of : List ℕ → ℕ → ℕ → ℕ → List ℕ
rows_of s n p k = listed n (row_no s n p k)

-- a bit at column N or later (7)
unfoldable pub row_check : List ℕ → ℕ → ℕ → ℕ → Walk
row_check s n at a = cond (ltb (row_in s n at a) (2 ^ n)) Passed (Refused BadColumn at)

-- an edge inside one thread (11)
unfoldable pub start_check : List ℕ → ℕ → ℕ → ℕ → ℕ → Walk
start_check s n p at a =
    cond (to_others n (recorded s p) (bit (row_in s n at a)) a) Passed (Refused OwnThread at)

-- of asw alone, relation 1
unfoldable pub starts_check : List ℕ → ℕ → ℕ → ℕ → ℕ → Walk
starts_check s n p at k = cond (eqb k 1) (walks (start_check s n p at) 0 n) Passed

-- relation number not the one due (6), then the rows (7), and then asw's edges (11)
unfoldable pub relation_check : List ℕ → ℕ → ℕ → ℕ → ℕ → Walk
relation_check s n p at k =
    then (head_check s at 4 (2 + rows_length n n))
    (then (cond (eqb (le_at s (at + 4) 2) k) Passed (Refused BadField at))
    (then (walks (row_check s n at) 0 n) (starts_check s n p at k)))

unfoldable pub relations_check : List ℕ → ℕ → ℕ → Walk
relations_check s n p = walks (λ k. relation_check s n p (relation_at n p k) k) 0 given_relations

unfoldable pub relation_record : ℕ → ℕ → List ℕ → List ℕ
relation_record n k rows = head_of 4 (2 + rows_length n n) ++ (le 2 k ++ joined n λ a. le (row_bytes n) (get_or rows a 0))

-- ---- kind 5, payload 0: end

abbrev pub end_at : ℕ → ℕ → ℕ
end_at n p = relation_at n p given_relations

-- bytes after the end record (8)
unfoldable pub end_check : List ℕ → ℕ → Walk
end_check s at = then (head_check s at 5 0) (cond (ltb (at + 4) (length s)) (Refused BytesAfterEnd (at + 4)) Passed)

abbrev pub end_of : List ℕ
end_of = head_of 5 0

-- ---- the whole file

abbrev pub file_length : ℕ → ℕ → ℕ
file_length n p = end_at n p + 4

-- The longest file has 17,022 bytes; one byte more of any file decides the answer to it.
abbrev pub longest_file : ℕ
longest_file = file_length most_actions most_places

abbrev pub file_room : ℕ
file_room = longest_file + 1

-- the candidate of a file with this edition and these N, T and P
unfoldable pub candidate_with : List ℕ → ℕ → ℕ → ℕ → ℕ → Candidate
candidate_with s e n t p =
    record {
      edition = e;
      n = n;
      t = t;
      p = p;
      places = take p (drop place_bytes s);
      acts = listed n (action_no s n p);
      sb = rows_of s n p 0;
      asw = rows_of s n p 1;
      dd = rows_of s n p 2;
      cd = rows_of s n p 3;
      rf = rows_of s n p 4;
      sc = rows_of s n p 5;
      mo = rows_of s n p 6;
    }

-- the candidate that a good file gives
unfoldable pub candidate_of : List ℕ → Candidate
candidate_of s = candidate_with s (edition_in s) (actions_in s) (threads_in s) (places_in s)

-- the records after the first
unfoldable pub records_check : List ℕ → ℕ → ℕ → ℕ → Walk
records_check s n t p =
    then (places_check s p) (then (actions_check s n t p) (then (relations_check s n p) (end_check s (end_at n p))))

abbrev pub answer : Walk → ℕ → ℕ → ℕ → ℕ → Checked
answer (Ok _) e n t p = Good e n t p
answer (Err r) e n t p = Err r

-- the check of a build that knows the editions up to `newest`
unfoldable pub check_by : ℕ → List ℕ → Checked
check_by newest s =
    answer (then (header_check newest s) (records_check s (actions_in s) (threads_in s) (places_in s))) (edition_in s) (actions_in s) (threads_in s) (places_in s)

-- and of this build
abbrev pub check_of : List ℕ → Checked
check_of s = check_by newest_edition s

-- the file of a candidate
unfoldable pub file_of : Candidate → List ℕ
file_of X =
    header_of X.edition X.n X.t X.p
    ++ (places_of X.p X.places
    ++ (joined X.n (λ i. action_record (get_or X.acts i no_action))
    ++ (joined given_relations (λ k. relation_record X.n k (get_or (given X) k [])) ++ end_of)))

-- what a file can hold: a well-formed candidate within the limits, with values of 32 bits
pub record Fileable (X : Candidate) : Type 0 where
  pub within : Within X
  pub valued : Valued X
  pub formed : well_formed X ≡ true

-- ---- the reader: the store and the order buffer beside the file

-- a store of fewer than 4,608 numbers or an order buffer of fewer than 128 bytes
abbrev pub short_of : ℕ → ℕ → Bool
short_of store order = ltb store store_length || ltb order order_length

-- 9 comes first, before anything is read
unfoldable pub read_with : List ℕ → ℕ → ℕ → Checked
read_with file store order = cond (short_of store order) (Refused ShortBuffer 0) (check_of file)

abbrev pub read_of : List ℕ → List ℕ → List ℕ → Checked
read_of file store order = read_with file (length store) (length order)
