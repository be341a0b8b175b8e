-- The other way: a file all of whose records are as they should be is good.
use Rattle.std.specs.Prelude.{ℕ, ◌+◌, ◌≡◌, List, length}
use Rattle.std.proofs.Math.Logic.{⊎_elim}
use Rattle.std.proofs.Common.{arith}
use borrow.Author.Tests.{le-ltb, eq-eqb, ne_eqb}
use Rattle.rows.specs.Laws.Truth.{eq_or_ne}
use Rattle.model.specs.Limits.{newest_edition, most_actions, most_threads, most_places, given_relations}
use Rattle.model.specs.Refusals.{Good, Passed}
use Rattle.drawing.specs.Files.{le_at, rows_length, action_at, relation_at, end_at, head_check, edition_check, limits_check, header_check, place_check, places_check, action_check, actions_check, row_check, start_check, starts_check, relation_check, relations_check, end_check, records_check, check_by, check_of}
use Rattle.drawing.specs.Laws.Passed.{walks_pass, Headed}
use Rattle.drawing.proofs.Laws.Good.{ActionTaken, RelationTaken, Taken}

pub head_passes : (s : List ℕ) (at kind len : ℕ) → Headed s at kind len → head_check s at kind len ≡ Passed
unfolding head_check
head_passes s at kind len h =
    rw (le-ltb (length s) (at + 4) (omega arith), eq-eqb (le_at s (at + 2) 2) kind h.kind_due, eq-eqb (le_at s at 2) len h.length_due, le-ltb (length s) (at + 4 + len) h.room)

action_passes : (s : List ℕ) (t p at : ℕ) → ActionTaken s t p at → action_check s t p at ≡ Passed
unfolding action_check
action_passes s t p at a = rw (head_passes s at 3 16 a.head, a.fields, a.kept)

relation_passes : (s : List ℕ) (n p at k : ℕ) → RelationTaken s n at k → starts_check s n p at k ≡ Passed → relation_check s n p at k ≡ Passed
unfolding relation_check row_check
relation_passes s n p at k r others =
    rw (head_passes s at 4 (2 + rows_length n n) r.head, eq-eqb (le_at s (at + 4) 2) k r.number, walks_pass (row_check s n at) 0 n (λ a l. rw (r.row a (omega arith))))
    others

module _ (s : List ℕ) (e n t p : ℕ) (g : Taken s e n t p) where
  header_passes : header_check newest_edition s ≡ Passed
  unfolding header_check edition_check limits_check
  header_passes =
      rw (head_passes s 0 1 8 g.header_head, g.e_is, g.edition, g.n_is, g.t_is, g.p_is, le-ltb most_actions n g.actions, le-ltb most_threads t g.threads, le-ltb most_places p g.places)

  places_pass : places_check s p ≡ Passed
  unfolding places_check place_check
  places_pass = rw (head_passes s 12 2 p g.places_head) (walks_pass (place_check s) 0 p (λ i l. rw (g.place i (omega arith))))

  actions_pass : actions_check s n t p ≡ Passed
  unfolding actions_check
  actions_pass = walks_pass (λ i. action_check s t p (action_at p i)) 0 n (λ i l. action_passes s t p (action_at p i) (g.action i (omega arith)))

  starts_pass : (k : ℕ) → starts_check s n p (relation_at n p k) k ≡ Passed
  unfolding starts_check start_check
  starts_pass k = ⊎_elim
      (λ (asw : k ≡ 1). rw (asw, walks_pass (start_check s n p (relation_at n p 1)) 0 n (λ a l. rw (g.others a (omega arith)))))
      (λ (ne : k ≡ 1 → ⊥). rw (ne_eqb k 1 ne))
      (eq_or_ne k 1)

  relations_pass : relations_check s n p ≡ Passed
  unfolding relations_check
  relations_pass =
      walks_pass (λ k. relation_check s n p (relation_at n p k) k) 0 given_relations
      (λ k l. relation_passes s n p (relation_at n p k) k (g.relation k (omega arith)) (starts_pass k))

  end_passes : end_check s (end_at n p) ≡ Passed
  unfolding end_check
  end_passes = rw (head_passes s (end_at n p) 5 0 g.end_head, le-ltb (end_at n p + 4) (length s) (omega arith))

  records_pass : records_check s n t p ≡ Passed
  unfolding records_check
  records_pass = rw (places_pass, actions_pass, relations_pass, end_passes)

-- the converse of `good-taken`
pub taken_good : (s : List ℕ) (e n t p : ℕ) → Taken s e n t p → check_of s ≡ Good e n t p
unfolding check_by
taken_good s e n t p g = rw (g.e_is, g.n_is, g.t_is, g.p_is, header_passes s e n t p g, records_pass s e n t p g)
