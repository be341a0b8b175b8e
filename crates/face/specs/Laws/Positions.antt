-- Positions in a refusal are in the longest file or just past it, and what a verdict names are actions.
use Rattle.std.specs.Prelude.{ℕ, zero, suc, ◌+◌, ◌*◌, ◌^◌, ◌<◌, ◌≤◌, Bool, true, false, cond, ◌&&◌, List, refl, ltb, eqb, length, get_or, Ok, Err}
use Rattle.std.proofs.Math.Path.{◌≡◌}
use native.Mathlib.Omega.{arith}
use Rattle.std.proofs.Math.Nat.{mul-le-mul, le_trans}
use Rattle.rows.specs.Numbers.{bit}
use Rattle.model.specs.Limits.{newest_edition, most_actions, most_threads, most_places, given_relations}
use Rattle.model.specs.Candidates.{Candidate, edition_ok, place_byte_ok, action_ok, to_others}
use Rattle.model.specs.Judge.{book, judged_of}
use Rattle.model.proofs.Laws.Refusals.{same_refused}
use Rattle.model.proofs.Laws.Verdicts.{broken_first}
use Rattle.model.specs.declared.refusals.Reason.{Reason}
use Rattle.model.specs.declared.refusals.Reason.TheVariants.{BadField, ShortBuffer}
use Rattle.model.specs.Refusals.{Answer, Checked, Passed, Refused, Walk}
use Rattle.drawing.specs.Files.{le_at, edition_in, actions_in, threads_in, places_in, place_bytes, action_at, relation_at, rows_length, row_in, end_at, action_of, recorded, fields_ok, then, walks, head_check, edition_check, limits_check, header_check, place_check, places_check, action_check, actions_check, row_check, start_check, starts_check, relation_check, relations_check, end_check, records_check, answer, longest_file, check_by, check_of, short_of, read_with, read_of, candidate_with, candidate_of}
use Rattle.drawing.specs.Laws.Passed.{header_limited}
use Rattle.drawing.specs.Laws.Sizes.{rows_most}
use Rattle.drawing.proofs.Laws.Good.{good_taken, read_good}
use Rattle.judge.specs.Answers.{answer_by}
use Rattle.face.specs.Face.{VerdictPlaced, Placed}

-- a walk that refuses does so in the longest file or just past it
pub record Near (w : Walk) : Type 0 where
  pub near : (k : Reason) (at : ℕ) → w ≡ Refused k at → at ≤ longest_file

passed_near : Near Passed
passed_near = record { near = λ k at e. let z : ◌≡◌ {A = ℕ} 0 1 = cc in absurd (let y : ⊥ = omega arith in y) }

refused_near : (k : Reason) (at : ℕ) → at ≤ longest_file → Near (Refused k at)
refused_near k at h = record { near = λ k' at' e. omega (arith, (same_refused k k' at at' e).1) }

-- a test whose failure or success is a refusal
unless_near : (b : Bool) (k : Reason) (at : ℕ) (w : Walk) → at ≤ longest_file → Near w → Near (cond b (Refused k at) w)
unless_near true k at w h p = refused_near k at h
unless_near false k at w h p = p

only_near : (b : Bool) (k : Reason) (at : ℕ) (w : Walk) → at ≤ longest_file → Near w → Near (cond b w (Refused k at))
only_near true k at w h p = p
only_near false k at w h p = refused_near k at h

-- one walk or another
one_near : (b : Bool) (v w : Walk) → Near v → Near w → Near (cond b v w)
one_near true v w p q = p
one_near false v w p q = q

then_near : (v w : Walk) → Near v → (v ≡ Passed → Near w) → Near (then v w)
then_near (Ok _) w p q = q refl
then_near (Err r) w p q = p

walks_near : (f : ℕ → Walk) (i m : ℕ) → ((j : ℕ) → j < i + m → Near (f j)) → Near (walks f i m)
unfolding walks
walks_near f i zero h = passed_near
walks_near f i (suc m) h = then_near (f i) _ (h i (omega arith)) (λ _. walks_near f (i + 1) m (λ j l. h j (omega arith)))

module _ (s : List ℕ) where
  head_near : (at kind len : ℕ) → at ≤ longest_file → Near (head_check s at kind len)
  unfolding head_check
  head_near at kind len h =
      unless_near (ltb (length s) (at + 4)) _ at _ h
      (only_near (eqb (le_at s (at + 2) 2) kind) _ at _ h
      (only_near (eqb (le_at s at 2) len) _ at _ h (unless_near (ltb (length s) (at + 4 + len)) _ at Passed h passed_near)))

  edition_near : Near (edition_check newest_edition s)
  unfolding edition_check
  edition_near = only_near (edition_ok newest_edition (edition_in s)) _ 0 Passed (omega arith) passed_near

  limits_near : Near (limits_check s)
  unfolding limits_check
  limits_near =
      unless_near (ltb most_actions (actions_in s)) _ 0 _ (omega arith)
      (unless_near (ltb most_threads (threads_in s)) _ 0 _ (omega arith)
      (unless_near (ltb most_places (places_in s)) _ 0 Passed (omega arith) passed_near))

  header_near : Near (header_check newest_edition s)
  unfolding header_check
  header_near =
      then_near (head_check s 0 1 8) _ (head_near 0 1 8 (omega arith))
      (λ _. then_near (edition_check newest_edition s) _ edition_near (λ _. limits_near))

  places_near : (p : ℕ) → Near (places_check s p)
  unfolding places_check place_check
  places_near p =
      then_near (head_check s 12 2 p) _ (head_near 12 2 p (omega arith))
      (λ _. walks_near (place_check s) 0 p (λ j l. only_near (place_byte_ok (get_or s (place_bytes + j) 0)) _ 12 Passed (omega arith) passed_near))

  action_near : (t p at : ℕ) → at ≤ longest_file → Near (action_check s t p at)
  unfolding action_check
  action_near t p at h = then_near (head_check s at 3 16) _ (head_near at 3 16 h) (λ _. only_near (fields_ok s at && action_ok t p (action_of s at)) _ at Passed h passed_near)

  starts_near : (n p at k : ℕ) → at ≤ longest_file → Near (starts_check s n p at k)
  unfolding starts_check start_check
  starts_near n p at k h =
      one_near (eqb k 1) (walks (start_check s n p at) 0 n) Passed
      (walks_near (start_check s n p at) 0 n (λ a l. only_near (to_others n (recorded s p) (bit (row_in s n at a)) a) _ at Passed h passed_near))
      passed_near

  relation_near : (n p at k : ℕ) → at ≤ longest_file → Near (relation_check s n p at k)
  unfolding relation_check row_check
  relation_near n p at k h =
      then_near (head_check s at 4 (2 + rows_length n n)) _ (head_near at 4 (2 + rows_length n n) h)
      (λ _.
      then_near (cond (eqb (le_at s (at + 4) 2) k) Passed (Refused BadField at)) _ (only_near (eqb (le_at s (at + 4) 2) k) _ at Passed h passed_near)
      (λ _.
      then_near (walks (row_check s n at) 0 n) _ (walks_near (row_check s n at) 0 n (λ a l. only_near (ltb (row_in s n at a) (2 ^ n)) _ at Passed h passed_near))
      (λ _. starts_near n p at k h)))

  end_near : (at : ℕ) → at + 4 ≤ longest_file → Near (end_check s at)
  unfolding end_check
  end_near at h = then_near (head_check s at 5 0) _ (head_near at 5 0 (omega arith)) (λ _. unless_near (ltb (at + 4) (length s)) _ (at + 4) Passed h passed_near)

  records_near : (n t p : ℕ) → n ≤ most_actions → p ≤ most_places → Near (records_check s n t p)
  unfolding records_check actions_check relations_check
  records_near n t p hn hp =
      let most : rows_length n n ≤ 16 * most_actions = le_trans (rows_most n n) (omega arith) in
      then_near (places_check s p) _ (places_near p)
      (λ _.
      then_near (actions_check s n t p) _
      (walks_near (λ i. action_check s t p (action_at p i)) 0 n (λ j l. action_near t p (action_at p j) (omega arith)))
      (λ _.
      then_near (relations_check s n p) _
      (walks_near (λ k. relation_check s n p (relation_at n p k) k) 0 given_relations
      (λ k l.
      let near : (6 + rows_length n n) * k ≤ (6 + rows_length most_actions most_actions) * 6 = mul-le-mul {n₂ = 6 + rows_length most_actions most_actions} {m₂ = 6} (omega arith) (omega arith) in
      relation_near n p (relation_at n p k) k (omega arith)))
      (λ _. end_near (end_at n p) (omega arith))))

  file_near : Near (then (header_check newest_edition s) (records_check s (actions_in s) (threads_in s) (places_in s)))
  file_near =
      then_near (header_check newest_edition s) _ header_near
      (λ e. let l = header_limited newest_edition s e in records_near (actions_in s) (threads_in s) (places_in s) l.actions l.places)

answer_near : (w : Walk) (e n t p : ℕ) (k : Reason) (at : ℕ) → Near w → answer w e n t p ≡ Refused k at → at ≤ longest_file
answer_near (Ok _) e n t p k at h told = let z : ◌≡◌ {A = ℕ} 0 1 = cc in absurd (let y : ⊥ = omega arith in y)
answer_near (Err r) e n t p k at h told = let q : r.at ≡ at = cc in omega (arith, h.near r.reason r.at refl)

check_near : (s : List ℕ) (k : Reason) (at : ℕ) → check_of s ≡ Refused k at → at ≤ longest_file
unfolding check_by
check_near s k at e = answer_near _ _ _ _ _ k at (file_near s) e

-- refusals of the reader stand in the longest file or just past it
pub read_near : (file : List ℕ) (store order : ℕ) (k : Reason) (at : ℕ) → read_with file store order ≡ Refused k at → at ≤ longest_file
unfolding read_with
read_near file store order k at e = go (short_of store order) e
  where
    go : (b : Bool) → cond b (Refused ShortBuffer 0) (check_of file) ≡ Refused k at → at ≤ longest_file
    go true e = omega (arith, (same_refused ShortBuffer k 0 at e).1)
    go false e = check_near file k at e

-- pair and middle of a judgement are actions
judged_placed : (X : Candidate) → X.n ≤ most_actions → VerdictPlaced (judged_of X).verdict
unfolding judged_of
judged_placed X h =
    record {
      pair = λ k a b m e.
          let f = broken_first X.edition X.n (book X) k a b m e in
          (omega (arith, f.pair.row_lt), omega (arith, f.pair.column_lt), record { named = λ z q. omega (arith, (f.middle.first z q).0) });
    }

module _ (file s o : List ℕ) where
  placed_by : (c : Checked) → read_of file s o ≡ c → Placed (answer_by c file)
  unfolding candidate_of candidate_with
  placed_by (Err r) e =
      record {
        position = λ k at f. let q : r.at ≡ at = cc in omega (arith, read_near file (length s) (length o) r.reason r.at e);
        verdict = λ j f. let z : ◌≡◌ {A = ℕ} 0 1 = cc in absurd (let y : ⊥ = omega arith in y);
      }
  placed_by (Ok h) taken =
      let g = good_taken file h.edition h.n h.t h.p (read_good file (length s) (length o) h.edition h.n h.t h.p taken).0 in
      record {
        position = λ k at f. let z : ◌≡◌ {A = ℕ} 0 1 = cc in absurd (let y : ⊥ = omega arith in y);
        verdict = λ j f. let q : judged_of (candidate_of file) ≡ j = cc in rw (← q) (judged_placed (candidate_of file) (omega (arith, g.n_is, g.actions)));
      }

  -- the first door's answer has its positions in a file, and its pair and middle in a candidate
  pub answer_placed : (r : Answer) → r ≡ answer_by (read_of file s o) file → Placed r
  answer_placed r e = rw e (placed_by (read_of file s o) refl)
