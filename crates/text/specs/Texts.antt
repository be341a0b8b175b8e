-- Text drawings: the text of a candidate, the candidate of a text, and the check of a text line by line. Definitions only.
-- A line is taken exactly if it is, byte for byte, the line that would be written of what it is read as.
use Rattle.text.specs.Reads.{Begun, Good, Reached}
use Rattle.std.specs.Prelude.{ℕ, zero, suc, ◌+◌, ◌*◌, Bool, not, cond, ◌&&◌, List, [], ◌++◌, leb, eqb, length, get_or, Ok, Err}
use Rattle.rows.specs.Sets.{Set, Rel}
use Rattle.rows.specs.Numbers.{listed, joined, rows_of, rel}
use Rattle.model.specs.declared.Action.{Action}
use Rattle.model.specs.Limits.{newest_edition, most_actions, most_threads, most_places, given_relations}
use Rattle.model.specs.Candidates.{Candidate, given, action_in, edition_ok, action_ok}
use Rattle.model.specs.declared.refusals.Reason.TheVariants.{BadLine}
use Rattle.model.specs.Refusals.{Checked, Passed, Refused, Walk}
use Rattle.drawing.specs.Files.{then, walks, answer}
use Rattle.spelling.specs.Spelling.{header_line, place_line, action_line, edge_line, end_line, stands, word_end, edition_in, actions_in, threads_in, places_in, header, place_at, action_read}

-- ---- the text of a candidate

-- then edges, each once, sorted by relation and pair;
abbrev pub edge_lines : ℕ → (ℕ → Rel) → List ℕ
edge_lines n r = joined given_relations λ k. joined n λ a. joined n λ b. cond (r k a b) (edge_line k a b) []

-- First line; then places; then actions; then edges,
unfoldable pub lines_of : ℕ → ℕ → ℕ → ℕ → (ℕ → ℕ) → (ℕ → Action) → (ℕ → Rel) → List ℕ
lines_of e n t p place act r =
    header_line e n t p ++ ((joined p λ i. place_line (place i)) ++ ((joined n λ i. action_line (act i)) ++ edge_lines n r))

-- then `end`.
unfoldable pub text_with : ℕ → ℕ → ℕ → ℕ → (ℕ → ℕ) → (ℕ → Action) → (ℕ → Rel) → List ℕ
text_with e n t p place act r = lines_of e n t p place act r ++ end_line

unfoldable pub text_of : Candidate → List ℕ
text_of X =
    text_with X.edition X.n X.t X.p (λ i. get_or X.places i 0) (action_in X) (λ k. rel (get_or (given X) k []))

-- ---- where the lines of a text stand

-- the place after m lines from q on: line i leads from where it stands to where it ends
unfoldable pub along : (ℕ → ℕ → ℕ) → ℕ → ℕ → ℕ
along step q zero = q
along step q (suc m) = step m (along step q m)

abbrev pub place_step : List ℕ → ℕ → ℕ → ℕ
place_step s i q = word_end s q (place_line (place_at s q))

abbrev pub action_step : List ℕ → ℕ → ℕ → ℕ
action_step s i q = word_end s q (action_line (action_read s q))

-- Edges are walked in their order, relation by relation and pair by pair: an edge is taken if its line is next. What is barred isn't.
abbrev pub edge_next : List ℕ → Set → ℕ → ℕ → ℕ → ℕ → Bool
edge_next s bar k a b q = not (bar b) && stands s q (edge_line k a b)

unfoldable pub edge_step : List ℕ → Set → ℕ → ℕ → ℕ → ℕ → ℕ
edge_step s bar k a b q = cond (edge_next s bar k a b q) (q + length (edge_line k a b)) q

-- the place after row a of relation k, which begins at q; and its members
abbrev pub row_step : List ℕ → ℕ → Set → ℕ → ℕ → ℕ → ℕ
row_step s n bar k a q = along (edge_step s bar k a) q n

abbrev pub row_taken : List ℕ → Set → ℕ → ℕ → ℕ → Set
row_taken s bar k a q b = edge_next s bar k a b (along (edge_step s bar k a) q b)

-- the place after m rows of relation k, which begins at q
abbrev pub rows_step : List ℕ → ℕ → (ℕ → Rel) → ℕ → ℕ → ℕ → ℕ
rows_step s n bars k q m = along (λ a. row_step s n (bars k a) k a) q m

abbrev pub relation_step : List ℕ → ℕ → (ℕ → Rel) → ℕ → ℕ → ℕ
relation_step s n bars k q = rows_step s n bars k q n

-- the edges from q on
unfoldable pub edge_taken : List ℕ → ℕ → (ℕ → Rel) → ℕ → ℕ → Rel
edge_taken s n bars q k a = row_taken s (bars k a) k a (rows_step s n bars k (along (relation_step s n bars) q k) a)

-- refusal 11's edge: of asw, inside one thread
abbrev pub barred : (ℕ → Action) → ℕ → Rel
barred act k a b = eqb k 1 && eqb (act a).thread (act b).thread

-- ---- the candidate of a text

-- where place i stands, where action i does, where the edges begin and where they end
abbrev pub place_place : List ℕ → ℕ → ℕ
place_place s i = along (place_step s) (length (header s)) i

abbrev pub action_place : List ℕ → ℕ → ℕ
action_place s i = along (action_step s) (place_place s (places_in s)) i

abbrev pub edge_place : List ℕ → ℕ
edge_place s = action_place s (actions_in s)

abbrev pub read_place : List ℕ → ℕ → ℕ
read_place s i = place_at s (place_place s i)

abbrev pub read_action : List ℕ → ℕ → Action
read_action s i = action_read s (action_place s i)

abbrev pub bars : List ℕ → ℕ → Rel
bars s = barred (read_action s)

abbrev pub read_edge : List ℕ → ℕ → Rel
read_edge s = edge_taken s (actions_in s) (bars s) (edge_place s)

abbrev pub end_place : List ℕ → ℕ
end_place s = along (relation_step s (actions_in s) (bars s)) (edge_place s) given_relations

unfoldable pub candidate_in : List ℕ → Candidate
candidate_in s =
    let n = actions_in s in
    record {
      edition = edition_in s;
      n = n;
      t = threads_in s;
      p = places_in s;
      places = listed (places_in s) (read_place s);
      acts = listed n (read_action s);
      sb = rows_of n (read_edge s 0);
      asw = rows_of n (read_edge s 1);
      dd = rows_of n (read_edge s 2);
      cd = rows_of n (read_edge s 3);
      rf = rows_of n (read_edge s 4);
      sc = rows_of n (read_edge s 5);
      mo = rows_of n (read_edge s 6);
    }

-- ---- the check: refusal 13 at the byte where the first bad or missing line starts

abbrev pub fine : Bool → ℕ → Walk
fine ok q = cond ok Passed (Refused BadLine q)

-- edition 1 or 2; N 0 to 128, T 0 to 16, P 0 to 64
unfoldable pub limits_ok : ℕ → ℕ → ℕ → ℕ → Bool
limits_ok e n t p = edition_ok newest_edition e && (leb n most_actions && (leb t most_threads && leb p most_places))

-- the first line, and its limits
unfoldable pub first_check : List ℕ → Walk
first_check s = fine (stands s 0 (header s) && limits_ok (edition_in s) (actions_in s) (threads_in s) (places_in s)) 0

-- the line at q is a place's
unfoldable pub place_test : List ℕ → ℕ → Walk
place_test s q = fine (stands s q (place_line (place_at s q))) q

-- the line at q is an action's, of a thread below T at a place below P
unfoldable pub action_test : List ℕ → ℕ → ℕ → ℕ → Walk
action_test s t p q = fine (stands s q (action_line (action_read s q)) && action_ok t p (action_read s q)) q

abbrev pub place_check : List ℕ → ℕ → Walk
place_check s i = place_test s (place_place s i)

abbrev pub action_check : List ℕ → ℕ → Walk
action_check s i = action_test s (threads_in s) (places_in s) (action_place s i)

-- An edge that is out of order, doubled, out of its limits or barred is never taken: it still stands where `end` is due. After `end` any byte is bad.
unfoldable pub end_test : List ℕ → ℕ → Walk
end_test s q = then (fine (stands s q end_line) q) (fine (leb (length s) (q + length end_line)) (q + length end_line))

-- the first line, the places and the actions
unfoldable pub begin_check : List ℕ → Walk
begin_check s =
    then (first_check s) (then (walks (place_check s) 0 (places_in s)) (walks (action_check s) 0 (actions_in s)))

-- and the edges, with the end
unfoldable pub lines_check : List ℕ → Walk
lines_check s = then (begin_check s) (end_test s (end_place s))

unfoldable pub text_check : List ℕ → Checked
text_check s = answer (lines_check s) (edition_in s) (actions_in s) (threads_in s) (places_in s)

-- ---- what is told of lines that were checked

-- where they end, or where the first bad one starts
abbrev pub reached : Walk → ℕ → Reached
reached (Ok _) q = Ok q
reached (Err r) q = Err r

-- what the first line says, and where places, actions and edges begin
abbrev pub begun : Walk → List ℕ → Begun
begun (Ok _) s =
    Good (edition_in s) (actions_in s) (threads_in s) (places_in s) (length (header s)) (place_place s (places_in s)) (edge_place s)
begun (Err r) s = Err r

-- ---- how long a text can be

-- the digits of the numbers 0 to 127, one after another
abbrev pub all_digits : ℕ
all_digits = 274

-- No text is longer: a first line of 20 bytes, of 7 for each place, of 40 for each action; of each relation 5 bytes for every edge and the digits of its numbers, once for a and once for b; a third letter for every edge of asw; and the end.
abbrev pub longest_text : ℕ
longest_text =
    20
    + 7 * most_places
    + 40 * most_actions
    + given_relations * (5 * (most_actions * most_actions) + 2 * (most_actions * all_digits))
    + most_actions * most_actions
    + 4

-- one byte more of any text decides the answer to it
abbrev pub text_room : ℕ
text_room = longest_text + 1
