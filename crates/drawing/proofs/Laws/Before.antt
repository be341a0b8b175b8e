-- A file of at most 64 actions is judged as it was before 128 actions: it has the same answer, gives the same candidate, and is written the same.
use Prim.Native.Nat.{ℕ, ◌≤◌}
use Rattle.std.specs.Prelude.{false, List, ◌≡◌, ltb}
use Rattle.std.proofs.Math.Path.{ap, fun_ext}
use Rattle.std.proofs.Common.{◌∙◌, arith, le-ltb, ltb-false}
use Rattle.rows.specs.Numbers.{width}
use Rattle.model.specs.Candidates.{Candidate}
use Rattle.model.specs.Limits.{newest_edition, most_actions, given_relations}
use Rattle.model.specs.Refusals.{Good, Walk}
use Rattle.drawing.specs.Files.{edition_in, actions_in, threads_in, places_in, walks, head_check, edition_check, limits_check, header_check, row_no, row_check, start_check, starts_check, relation_check, relations_check, relation_record, candidate_with, candidate_of, records_check, check_by, check_of, file_of}
use Rattle.drawing.specs.Before as before
use Rattle.drawing.specs.Laws.Passed.{unless, both_pass}
use Rattle.drawing.proofs.Laws.Good.{good_walk}

-- ---- rows of n actions have 8 bytes as before

module _ (n : ℕ) (few : n ≤ 64) where
  narrow : ltb width n ≡ false
  narrow = le-ltb width n few

  module _ (s : List ℕ) (p : ℕ) where
    row_same : row_no s n p ≡ before.row_no s n p
    unfolding row_no before.row_no
    row_same = fun_ext λ k. fun_ext λ a. rw narrow

    with_same : (e t : ℕ) → candidate_with s e n t p ≡ before.candidate_with s e n t p
    unfolding candidate_with before.candidate_with
    with_same e t = rw row_same

    module _ (at : ℕ) where
      row_check_same : row_check s n at ≡ before.row_check s n at
      unfolding row_check before.row_check
      row_check_same = fun_ext λ a. rw narrow

      start_same : start_check s n p at ≡ before.start_check s n p at
      unfolding start_check before.start_check
      start_same = fun_ext λ a. rw narrow

      relation_same : (k : ℕ) → relation_check s n p at k ≡ before.relation_check s n p at k
      unfolding relation_check before.relation_check starts_check before.starts_check
      relation_same k = rw (narrow, row_check_same, start_same)

    relations_same : relations_check s n p ≡ before.relations_check s n p
    unfolding relations_check before.relations_check
    relations_same = rw narrow (ap (λ (f : ℕ → Walk). walks f 0 given_relations) (fun_ext λ k. relation_same (before.relation_at n p k) k))

    records_same : (t : ℕ) → records_check s n t p ≡ before.records_check s n t p
    unfolding records_check before.records_check
    records_same t = rw (relations_same, narrow)

  record_same : relation_record n ≡ before.relation_record n
  unfolding relation_record before.relation_record
  record_same = fun_ext λ k. fun_ext λ rows. rw narrow

-- ---- whatever the old reader answers to a file of at most 64 actions, the new one answers

pub check_same : (newest : ℕ) (s : List ℕ) → actions_in s ≤ 64 → check_by newest s ≡ before.check_by newest s
unfolding check_by before.check_by header_check before.header_check limits_check before.limits_check
check_same newest s few =
    let within : actions_in s ≤ most_actions = omega arith in
    rw (le-ltb most_actions (actions_in s) within, le-ltb 64 (actions_in s) few, records_same (actions_in s) few s (places_in s) (threads_in s))

-- its candidate is the same
pub candidate_same : (s : List ℕ) → actions_in s ≤ 64 → candidate_of s ≡ before.candidate_of s
unfolding candidate_of before.candidate_of
candidate_same s few = with_same (actions_in s) few s (places_in s) (edition_in s) (threads_in s)

-- and a candidate of at most 64 actions is written the same
pub file_same : (X : Candidate) → X.n ≤ 64 → file_of X ≡ before.file_of X
unfolding file_of before.file_of
file_same X few = rw (record_same X.n few)

-- ---- so a file that the old reader takes, which has at most 64 actions,

taken_few : (s : List ℕ) (e n t p : ℕ) → before.check_of s ≡ Good e n t p → actions_in s ≤ 64
unfolding before.check_by before.header_check before.limits_check
taken_few s e n t p good =
    let passed = (good_walk (edition_in s) (actions_in s) (threads_in s) (places_in s) e n t p _ good).0 in
    let header = (both_pass (before.header_check newest_edition s) _ passed).0 in
    let limits = (both_pass (edition_check newest_edition s) _ (both_pass (head_check s 0 1 8) _ header).1).1 in
    ltb-false 64 (actions_in s) (unless (ltb 64 (actions_in s)) _ _ _ limits).0

module _ (s : List ℕ) (e n t p : ℕ) (good : before.check_of s ≡ Good e n t p) where
  -- is taken,
  pub old_taken : check_of s ≡ Good e n t p
  old_taken = check_same newest_edition s (taken_few s e n t p good) ∙ good

  -- gives the same candidate,
  pub old_candidate : candidate_of s ≡ before.candidate_of s
  old_candidate = candidate_same s (taken_few s e n t p good)

  -- and is written the same
  pub old_written : file_of (candidate_of s) ≡ before.file_of (before.candidate_of s)
  unfolding candidate_of candidate_with
  old_written = file_same (candidate_of s) (taken_few s e n t p good) ∙ ap before.file_of old_candidate
