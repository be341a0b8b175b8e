-- The file as it was before 128 actions: N 0 to 64, and rows of 8 bytes. Definitions only: those that changed since, as they stood.
use Rattle.std.specs.Prelude.{ℕ, ◌+◌, ◌*◌, ◌^◌, cond, List, [], ◌++◌, ltb, eqb, get_or, take, drop}
use Rattle.rows.specs.Numbers.{bit, listed, joined}
use Rattle.model.specs.Actions.{no_action}
use Rattle.model.specs.Limits.{newest_edition, most_threads, most_places, given_relations}
use Rattle.model.specs.Candidates.{Candidate, given, to_others}
use Rattle.model.specs.declared.refusals.Reason.TheVariants.{AboveLimit, BadField, BadColumn, OwnThread}
use Rattle.model.specs.Refusals.{Checked, Passed, Refused, Walk}
use Rattle.drawing.specs.Files.{le_at, le, then, walks, head_check, head_of, edition_in, actions_in, threads_in, places_in, edition_check, header_of, place_bytes, places_check, places_of, action_at, recorded, action_no, actions_check, action_record, end_check, end_of, answer}

-- N 0 to 64
abbrev pub most_actions : ℕ
most_actions = 64

-- N, T or P above its limit (5)
unfoldable pub limits_check : List ℕ → Walk
limits_check s =
    cond (ltb most_actions (actions_in s)) (Refused AboveLimit 0)
    (cond (ltb most_threads (threads_in s)) (Refused AboveLimit 0)
    (cond (ltb most_places (places_in s)) (Refused AboveLimit 0) Passed))

unfoldable pub header_check : ℕ → List ℕ → Walk
header_check newest s = then (head_check s 0 1 8) (then (edition_check newest s) (limits_check s))

-- ---- kind 4, payload 2+8N, 7 times: relation number u16, N rows of 64 bits

-- relation k of 7, 6 + 8 N bytes each
abbrev pub relation_at : ℕ → ℕ → ℕ → ℕ
relation_at n p k = action_at p n + (6 + 8 * n) * k

-- row a of the relation record at `at`
abbrev pub row_at : ℕ → ℕ → ℕ
row_at at a = at + 6 + 8 * a

-- row a of relation k; rows from N on are zero
unfoldable pub row_no : List ℕ → ℕ → ℕ → ℕ → ℕ → ℕ
row_no s n p k a = cond (ltb a n) (le_at s (row_at (relation_at n p k) a) 8) 0

-- the rows of relation k
abbrev pub rows_of : List ℕ → ℕ → ℕ → ℕ → List ℕ
rows_of s n p k = listed n (row_no s n p k)

-- a bit at column N or later (7)
unfoldable pub row_check : List ℕ → ℕ → ℕ → ℕ → Walk
row_check s n at a = cond (ltb (le_at s (row_at at a) 8) (2 ^ n)) Passed (Refused BadColumn at)

-- an edge inside one thread (11)
unfoldable pub start_check : List ℕ → ℕ → ℕ → ℕ → ℕ → Walk
start_check s n p at a =
    cond (to_others n (recorded s p) (bit (le_at s (row_at at a) 8)) a) Passed (Refused OwnThread at)

-- of asw alone, relation 1
unfoldable pub starts_check : List ℕ → ℕ → ℕ → ℕ → ℕ → Walk
starts_check s n p at k = cond (eqb k 1) (walks (start_check s n p at) 0 n) Passed

-- relation number not the one due (6), then the rows (7), and then asw's edges (11)
unfoldable pub relation_check : List ℕ → ℕ → ℕ → ℕ → ℕ → Walk
relation_check s n p at k =
    then (head_check s at 4 (2 + 8 * n))
    (then (cond (eqb (le_at s (at + 4) 2) k) Passed (Refused BadField at))
    (then (walks (row_check s n at) 0 n) (starts_check s n p at k)))

unfoldable pub relations_check : List ℕ → ℕ → ℕ → Walk
relations_check s n p = walks (λ k. relation_check s n p (relation_at n p k) k) 0 given_relations

unfoldable pub relation_record : ℕ → ℕ → List ℕ → List ℕ
relation_record n k rows = head_of 4 (2 + 8 * n) ++ (le 2 k ++ joined n λ a. le 8 (get_or rows a 0))

abbrev pub end_at : ℕ → ℕ → ℕ
end_at n p = relation_at n p given_relations

-- ---- the whole file

-- the candidate of a file with this edition and these N, T and P
unfoldable pub candidate_with : List ℕ → ℕ → ℕ → ℕ → ℕ → Candidate
candidate_with s e n t p =
    record {
      edition = e;
      n = n;
      t = t;
      p = p;
      places = take p (drop place_bytes s);
      acts = listed n (action_no s n p);
      sb = rows_of s n p 0;
      asw = rows_of s n p 1;
      dd = rows_of s n p 2;
      cd = rows_of s n p 3;
      rf = rows_of s n p 4;
      sc = rows_of s n p 5;
      mo = rows_of s n p 6;
    }

-- the candidate that a good file gives
unfoldable pub candidate_of : List ℕ → Candidate
candidate_of s = candidate_with s (edition_in s) (actions_in s) (threads_in s) (places_in s)

-- the records after the first
unfoldable pub records_check : List ℕ → ℕ → ℕ → ℕ → Walk
records_check s n t p =
    then (places_check s p) (then (actions_check s n t p) (then (relations_check s n p) (end_check s (end_at n p))))

-- the check of a build that knows the editions up to `newest`
unfoldable pub check_by : ℕ → List ℕ → Checked
check_by newest s =
    answer (then (header_check newest s) (records_check s (actions_in s) (threads_in s) (places_in s))) (edition_in s) (actions_in s) (threads_in s) (places_in s)

-- and of this build
abbrev pub check_of : List ℕ → Checked
check_of s = check_by newest_edition s

-- the file of a candidate
unfoldable pub file_of : Candidate → List ℕ
file_of X =
    header_of X.edition X.n X.t X.p
    ++ (places_of X.p X.places
    ++ (joined X.n (λ i. action_record (get_or X.acts i no_action))
    ++ (joined given_relations (λ k. relation_record X.n k (get_or (given X) k [])) ++ end_of)))
