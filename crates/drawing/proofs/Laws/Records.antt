-- Each record, where it was written, is taken, and gives back what was written.
use Rattle.std.specs.Prelude.{ℕ, ◌+◌, ◌^◌, ◌<◌, ◌≤◌, ◌≡◌, true, List, ◌++◌, length, get_or}
use Rattle.std.proofs.Math.Path.{refl}
use Rattle.std.proofs.Common.{◌∙◌, arith, add-zero}
use Rattle.rows.specs.Numbers.{joined}
use Rattle.rows.specs.Laws.Lists.{joined_width}
use Rattle.model.specs.declared.Action.{Action}
use Rattle.model.specs.Actions.{kind_number, order_in}
use Rattle.model.specs.Candidates.{action_ok, rows_ok}
use Rattle.model.specs.Limits.{most_actions}
use Rattle.drawing.specs.Files.{le_at, le, head_of, action_of, fields_ok, action_record, row_bytes, rows_length, row_in, relation_record}
use Rattle.drawing.specs.Laws.Kinds.{kind_found, kind_taken, kind_bytes}
use Rattle.drawing.proofs.Laws.LittleEndian.{le_length}
use Rattle.drawing.specs.Laws.Passed.{Headed}
use Rattle.drawing.proofs.Laws.Good.{ActionTaken, RelationTaken}
use Rattle.drawing.specs.Laws.Here.{Here, here_rest, here_part, le_here, le_written}
use Rattle.drawing.specs.Laws.Fits.{Fits, row_low, row_fits}
use Rattle.drawing.specs.Laws.Sizes.{rows_each, rows_most}

-- ---- heads

pub head_length : (kind len : ℕ) → length (head_of kind len) ≡ 4
unfolding head_of le
head_length kind len = refl

-- a head that was written is one that passed
pub head_again : {s : List ℕ} {at : ℕ} (kind len : ℕ) (v : List ℕ) → kind < 256 ^ 2 → len < 256 ^ 2 → length v ≡ len → Here s at (head_of kind len ++ v) → Headed s at kind len
unfolding head_of le le_at
head_again {at = at} kind len v k l e h =
    record {
      kind_due = le_here h 2 2 (omega arith) ∙ omega arith;
      length_due = rw (add-zero at) at (le_here h 0 2 (omega arith)) ∙ omega arith;
      room = omega (arith, h.room);
    }

-- ---- actions

pub action_length : (x : Action) → length (action_record x) ≡ 20
unfolding action_record head_of le
action_length x = refl

module _ (s : List ℕ) (at : ℕ) (x : Action) (h : Here s at (action_record x)) where
  -- its fields
  kind_at : get_or s (at + 4) 0 ≡ kind_number x.what
  unfolding action_record head_of le
  kind_at = h.same 4 (omega arith) ∙ (kind_bytes x.what).0

  order_at : get_or s (at + 5) 0 ≡ order_in x.what
  unfolding action_record head_of le
  order_at = h.same 5 (omega arith) ∙ (kind_bytes x.what).1

  zero_at : le_at s (at + 10) 2 ≡ 0
  unfolding action_record head_of le le_at
  zero_at = le_here h 10 2 (omega arith)

  fields_taken : fields_ok s at ≡ true
  unfolding fields_ok
  fields_taken = rw (kind_at, order_at, zero_at, kind_taken x.what)

  module _ (f : Fits x) where
    thread_at_lem : le_at s (at + 6) 2 ≡ x.thread
    unfolding action_record head_of le le_at
    thread_at_lem = le_here h 6 2 (omega arith) ∙ omega (arith, f.thread)

    place_at_lem : le_at s (at + 8) 2 ≡ x.place
    unfolding action_record head_of le le_at
    place_at_lem = le_here h 8 2 (omega arith) ∙ omega (arith, f.place)

    read_at_lem : le_at s (at + 12) 4 ≡ x.read
    unfolding action_record head_of le le_at
    read_at_lem = le_here h 12 4 (omega arith) ∙ omega (arith, f.read)

    written_at : le_at s (at + 16) 4 ≡ x.written
    unfolding action_record head_of le le_at
    written_at = le_here h 16 4 (omega arith) ∙ omega (arith, f.written)

    -- it gives the action
    pub action_again : action_of s at ≡ x
    unfolding action_of
    action_again = rw (kind_at, order_at, kind_found x.what, thread_at_lem, place_at_lem, read_at_lem, written_at)

    -- and is taken
    pub action_written : (t p : ℕ) → action_ok t p x ≡ true → ActionTaken s t p at
    unfolding action_record le
    action_written t p e =
        record { head = head_again 3 16 _ (omega arith) (omega arith) refl h; fields = fields_taken; kept = rw action_again e }

-- ---- relations

-- row a
abbrev row_text : ℕ → List ℕ → ℕ → List ℕ
row_text n rows a = le (row_bytes n) (get_or rows a 0)

rows_width : (n : ℕ) (rows : List ℕ) → length (joined n (row_text n rows)) ≡ rows_length n n
rows_width n rows = joined_width (row_text n rows) (row_bytes n) (λ a. le_length (row_bytes n) (get_or rows a 0)) n ∙ rows_each n n

pub relation_length : (n k : ℕ) (rows : List ℕ) → length (relation_record n k rows) ≡ 6 + rows_length n n
unfolding relation_record head_of le
relation_length n k rows = omega (arith, rows_width n rows)

module _ (s : List ℕ) (at n k : ℕ) (rows : List ℕ) (few : n ≤ most_actions) (ok : rows_ok n rows ≡ true) (h : Here s at (relation_record n k rows)) where
  -- it gives the rows
  pub row_again : (a : ℕ) → a < n → row_in s n at a ≡ get_or rows a 0
  unfolding relation_record
  row_again a l =
      let after = here_rest (head_of 4 (2 + rows_length n n)) h (head_length 4 (2 + rows_length n n)) refl in
      let all = here_rest {b = at + 6} (le 2 k) after (le_length 2 k) (omega arith) in
      let part = here_part (row_text n rows) (row_bytes n) (λ b. le_length (row_bytes n) (get_or rows b 0)) n all a l in
      le_written (row_bytes n) (get_or rows a 0) (rw (rows_each n a) at part) (row_fits n few (get_or rows a 0) (row_low n rows ok a l))

  -- and is taken
  pub relation_written : k < 256 ^ 2 → RelationTaken s n at k
  unfolding relation_record le le_at head_of
  relation_written l =
      record {
        head = head_again 4 (2 + rows_length n n) _ (omega arith) (omega (arith, rows_most n n)) (omega (arith, rows_width n rows)) h;
        number = le_here h 4 2 (omega arith) ∙ omega arith;
        row = λ a m. rw (row_again a m) (row_low n rows ok a m);
      }
