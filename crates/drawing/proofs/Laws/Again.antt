-- Every good file is what is written of its candidate.
use Rattle.std.specs.Prelude.{ℕ, ◌+◌, ◌<◌, ◌≤◌, ◌≡◌, true, List, [], ◌++◌, get_or}
use Rattle.std.proofs.Common.{ap, ⊎_elim, arith, ltb-true}
use Rattle.std.proofs.Math.ListN.{get_or-eq_default}
use Rattle.rows.specs.Numbers.{joined}
use Rattle.rows.specs.Laws.Lists.{joined_ext}
use Rattle.rows.specs.Laws.Truth.{lt_or_le}
use Rattle.model.specs.declared.Action.{Action}
use Rattle.model.specs.Actions.{kind_number, order_in, no_action}
use Rattle.model.specs.Candidates.{Candidate, given, well_formed, Valued}
use Rattle.model.specs.Limits.{given_relations}
use Rattle.model.specs.Laws.Formed.{parts}
use Rattle.model.specs.Refusals.{Good}
use Rattle.drawing.specs.Files.{le, head_of, header_of, places_of, row_bytes, rows_length, action_at, action_record, relation_record, end_of, action_of, candidate_with, candidate_of, check_of, file_of, Fileable}
use Rattle.drawing.proofs.Laws.LittleEndian.{Bytes, le_below, le_bytes, bytes_append, bytes_joined}
use Rattle.drawing.proofs.Laws.Good.{good_taken, good_candidate}
use Rattle.drawing.proofs.Laws.Formed.{acts_at, taken_formed, taken_within}
use Rattle.drawing.proofs.Laws.Determined.{file_determined}
use Rattle.drawing.proofs.Laws.Written.{written_good, written_same}

-- ---- a file has bytes

head_bytes : (kind len : ℕ) → Bytes (head_of kind len)
unfolding head_of
head_bytes kind len = bytes_append (le 2 len) (le 2 kind) (le_bytes 2 len) (le_bytes 2 kind)

-- a number and what follows
more_bytes : (w x : ℕ) (u : List ℕ) → Bytes u → Bytes (le w x ++ u)
more_bytes w x u b = bytes_append (le w x) u (le_bytes w x) b

header_bytes : (e n t p : ℕ) → Bytes (header_of e n t p)
unfolding header_of
header_bytes e n t p =
    bytes_append (head_of 1 8) _ (head_bytes 1 8) (more_bytes 2 e _ (more_bytes 2 n _ (more_bytes 2 t _ (le_bytes 2 p))))

action_bytes : (x : Action) → Bytes (action_record x)
unfolding action_record
action_bytes x =
    bytes_append (head_of 3 16) _ (head_bytes 3 16)
    (more_bytes 1 (kind_number x.what) _ (more_bytes 1 (order_in x.what) _ (more_bytes 2 x.thread _ (more_bytes 2 x.place _ (more_bytes 2 0 _ (more_bytes 4 x.read _ (le_bytes 4 x.written)))))))

relation_bytes : (n k : ℕ) (rows : List ℕ) → Bytes (relation_record n k rows)
unfolding relation_record
relation_bytes n k rows =
    bytes_append (head_of 4 (2 + rows_length n n)) _ (head_bytes 4 (2 + rows_length n n))
    (more_bytes 2 k _ (bytes_joined (λ a. le (row_bytes n) (get_or rows a 0)) (λ a. le_bytes (row_bytes n) (get_or rows a 0)) n))

-- so have the places
place_bytes_lem : (X : Candidate) → well_formed X ≡ true → Bytes X.places
place_bytes_lem X w i =
    let f = parts X w in
    ⊎_elim
    (λ (l : i < X.p). omega (arith, ltb-true (get_or X.places i 0) 3 (f.byte i l)))
    (λ (l : X.p ≤ i). omega (arith, get_or-eq_default X.places 0 {n = i} (omega arith)))
    (lt_or_le i X.p)

pub file_bytes : (X : Candidate) → well_formed X ≡ true → Bytes (file_of X)
unfolding file_of places_of
file_bytes X w =
    let acts = bytes_joined (λ i. action_record (get_or X.acts i no_action)) (λ i. action_bytes (get_or X.acts i no_action)) X.n in
    let rows = bytes_joined (λ k. relation_record X.n k (get_or (given X) k [])) (λ k. relation_bytes X.n k (get_or (given X) k [])) given_relations in
    bytes_append (header_of X.edition X.n X.t X.p) _ (header_bytes X.edition X.n X.t X.p)
    (bytes_append (places_of X.p X.places) _ (bytes_append (head_of 2 X.p) X.places (head_bytes 2 X.p) (place_bytes_lem X w))
    (bytes_append (joined X.n λ i. action_record (get_or X.acts i no_action)) _ acts
    (bytes_append (joined given_relations λ k. relation_record X.n k (get_or (given X) k [])) end_of rows (head_bytes 5 0))))

-- ---- a good file again

-- the values of a good file have four bytes
pub taken_valued : (s : List ℕ) (e n t p : ℕ) → Bytes s → check_of s ≡ Good e n t p → Valued (candidate_of s)
unfolding candidate_with action_of
taken_valued s e n t p b good =
    rw (good_candidate s e n t p (good_taken s e n t p good))
    (record { each = λ a l. rw (acts_at s e n t p a l) (le_below s b (action_at p a + 12) 4, le_below s b (action_at p a + 16) 4) })

-- the candidate of a good file is one that a file can hold
pub good_fileable : (s : List ℕ) (e n t p : ℕ) → Bytes s → check_of s ≡ Good e n t p → Fileable (candidate_of s)
good_fileable s e n t p bytes good =
    record { within = taken_within s e n t p good; valued = taken_valued s e n t p bytes good; formed = taken_formed s e n t p good }

-- it is the file of its candidate
pub file_again : (s : List ℕ) (e n t p : ℕ) → Bytes s → check_of s ≡ Good e n t p → file_of (candidate_of s) ≡ s
file_again s e n t p b good =
    let X = candidate_of s in
    let f = good_fileable s e n t p b good in
    file_determined (file_of X) s X.edition X.n X.t X.p e n t p (file_bytes X f.formed) b (written_good X f) good (written_same X f)

-- candidates that differ at most past their N actions have the same file
pub file_acts : (X Y : Candidate) → X.edition ≡ Y.edition → X.n ≡ Y.n → X.t ≡ Y.t → X.p ≡ Y.p → X.places ≡ Y.places
    → ((i : ℕ) → i < X.n → get_or X.acts i no_action ≡ get_or Y.acts i no_action)
    → ((k : ℕ) → k < given_relations → get_or (given X) k [] ≡ get_or (given Y) k []) → file_of X ≡ file_of Y
unfolding file_of
file_acts X Y edition n t p places acts rows =
    let actions = joined_ext X.n (λ i. action_record (get_or X.acts i no_action)) (λ i. action_record (get_or Y.acts i no_action)) (λ i l. ap action_record (acts i l)) in
    let relations = joined_ext given_relations (λ k. relation_record X.n k (get_or (given X) k [])) (λ k. relation_record X.n k (get_or (given Y) k [])) (λ k l. ap (relation_record X.n k) (rows k l)) in
    rw (actions, relations, edition, n, t, p, places)
