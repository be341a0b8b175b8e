-- What the check tells of a file that is good, and the reader of one that it takes.
use Rattle.std.specs.Prelude.{ℕ, ◌+◌, ◌^◌, ◌<◌, ◌≤◌, ◌≡◌, refl, Bool, true, false, cond, ◌&&◌, List, ltb, eqb, length, get_or, Ok, Err}
use Rattle.std.proofs.Common.{arith, ltb-false, eqb-true}
use Rattle.rows.specs.Laws.Truth.{both_true, both_false}
use Rattle.rows.specs.Numbers.{bit}
use Rattle.model.specs.Candidates.{edition_ok, place_byte_ok, action_ok, to_others}
use Rattle.model.specs.Limits.{newest_edition, most_actions, most_threads, most_places, given_relations, store_length, order_length}
use Rattle.model.specs.declared.refusals.Reason.TheVariants.{BadField, ShortBuffer}
use Rattle.model.specs.Refusals.{Checked, Good, Passed, Refused, Walk}
use Rattle.model.proofs.Laws.Refusals.{same_good}
use Rattle.drawing.specs.Files.{le_at, edition_in, actions_in, threads_in, places_in, place_bytes, action_at, rows_length, relation_at, row_in, end_at, file_length, action_of, recorded, candidate_with, candidate_of, then, walks, head_check, header_check, place_check, places_check, fields_ok, action_check, actions_check, row_check, start_check, starts_check, relation_check, relations_check, end_check, records_check, answer, check_by, check_of, short_of, read_with}
use Rattle.drawing.specs.Laws.Passed.{unless, only_if, both_pass, each_pass, Headed, headed, header_headed, header_limited}

-- ---- record by record

pub record ActionTaken (s : List ℕ) (t p at : ℕ) : Type 0 where
  pub head : Headed s at 3 16
  pub fields : fields_ok s at ≡ true
  pub kept : action_ok t p (action_of s at) ≡ true

action_taken : (s : List ℕ) (t p at : ℕ) → action_check s t p at ≡ Passed → ActionTaken s t p at
unfolding action_check
action_taken s t p at e =
    let a = both_pass (head_check s at 3 16) _ e in
    let b = both_true (fields_ok s at) _ (only_if (fields_ok s at && action_ok t p (action_of s at)) _ _ _ a.1).0 in
    record { head = headed s at 3 16 a.0; fields = b.0; kept = b.1 }

pub record RelationTaken (s : List ℕ) (n at k : ℕ) : Type 0 where
  pub head : Headed s at 4 (2 + rows_length n n)
  pub number : le_at s (at + 4) 2 ≡ k
  pub row : (a : ℕ) → a < n → ltb (row_in s n at a) (2 ^ n) ≡ true

relation_taken : (s : List ℕ) (n p at k : ℕ) → relation_check s n p at k ≡ Passed → RelationTaken s n at k × (starts_check s n p at k ≡ Passed)
unfolding relation_check row_check
relation_taken s n p at k e =
    let h = both_pass (head_check s at 4 (2 + rows_length n n)) _ e in
    let b = both_pass (cond (eqb (le_at s (at + 4) 2) k) Passed (Refused BadField at)) _ h.1 in
    let r = both_pass (walks (row_check s n at) 0 n) _ b.1 in (
      record {
        head = headed s at 4 (2 + rows_length n n) h.0;
        number = eqb-true (le_at s (at + 4) 2) k (only_if (eqb (le_at s (at + 4) 2) k) _ _ _ b.0).0;
        row = λ a l. (only_if (ltb (row_in s n at a) (2 ^ n)) _ _ _ (each_pass (row_check s n at) 0 n r.0 a (omega arith) (omega arith))).0;
      },
      r.1,
    )

-- asw joins different threads
starts_taken : (s : List ℕ) (n p at : ℕ) → starts_check s n p at 1 ≡ Passed → (a : ℕ) → a < n → to_others n (recorded s p) (bit (row_in s n at a)) a ≡ true
unfolding starts_check start_check
starts_taken s n p at e a l = (only_if (to_others n (recorded s p) (bit (row_in s n at a)) a) _ _ _ (each_pass (start_check s n p at) 0 n e a (omega arith) (omega arith))).0

-- a good file: its edition, its numbers and their limits, every record, and the exact length
pub record Taken (s : List ℕ) (e n t p : ℕ) : Type 0 where
  pub e_is : edition_in s ≡ e
  pub n_is : actions_in s ≡ n
  pub t_is : threads_in s ≡ t
  pub p_is : places_in s ≡ p
  pub edition : edition_ok newest_edition e ≡ true
  pub actions : n ≤ most_actions
  pub threads : t ≤ most_threads
  pub places : p ≤ most_places
  pub header_head : Headed s 0 1 8
  pub places_head : Headed s 12 2 p
  pub place : (i : ℕ) → i < p → place_byte_ok (get_or s (place_bytes + i) 0) ≡ true
  pub action : (i : ℕ) → i < n → ActionTaken s t p (action_at p i)
  pub relation : (k : ℕ) → k < given_relations → RelationTaken s n (relation_at n p k) k
  pub others : (a : ℕ) → a < n → to_others n (recorded s p) (bit (row_in s n (relation_at n p 1) a)) a ≡ true
  pub end_head : Headed s (end_at n p) 5 0
  pub size : length s ≡ file_length n p

passed_taken : (s : List ℕ) → then (header_check newest_edition s) (records_check s (actions_in s) (threads_in s) (places_in s)) ≡ Passed → Taken s (edition_in s) (actions_in s) (threads_in s) (places_in s)
unfolding records_check places_check place_check actions_check relations_check end_check
passed_taken s e =
    let n = actions_in s in
    let t = threads_in s in
    let p = places_in s in
    let h = both_pass (header_check newest_edition s) _ e in
    let b = both_pass (places_check s p) _ h.1 in
    let q = both_pass (head_check s 12 2 p) _ b.0 in
    let a = both_pass (actions_check s n t p) _ b.1 in
    let r = both_pass (relations_check s n p) _ a.1 in
    let f = both_pass (head_check s (end_at n p) 5 0) _ r.1 in
    let g = headed s (end_at n p) 5 0 f.0 in
    let m = header_limited newest_edition s h.0 in
    let relation : (k : ℕ) → k < given_relations → RelationTaken s n (relation_at n p k) k × (starts_check s n p (relation_at n p k) k ≡ Passed) =
    λ k l. relation_taken s n p (relation_at n p k) k (each_pass (λ j. relation_check s n p (relation_at n p j) j) 0 given_relations r.0 k (omega arith) (omega arith)) in
    let over = ltb-false (end_at n p + 4) (length s) (unless (ltb (end_at n p + 4) (length s)) _ _ _ f.1).0 in
    record {
      e_is = refl;
      n_is = refl;
      t_is = refl;
      p_is = refl;
      edition = m.edition;
      actions = m.actions;
      threads = m.threads;
      places = m.places;
      header_head = header_headed newest_edition s h.0;
      places_head = headed s 12 2 p q.0;
      place = λ i l. (only_if (place_byte_ok (get_or s (place_bytes + i) 0)) _ _ _ (each_pass (place_check s) 0 p q.1 i (omega arith) (omega arith))).0;
      action = λ i l. action_taken s t p (action_at p i) (each_pass (λ j. action_check s t p (action_at p j)) 0 n a.0 i (omega arith) (omega arith));
      relation = λ k l. (relation k l).0;
      others = starts_taken s n p (relation_at n p 1) (relation 1 (omega arith)).1;
      end_head = g;
      size = omega (arith, g.room, over);
    }

-- ---- the whole file

pub good_walk : (e n t p d m v q : ℕ) (w : Walk) → answer w e n t p ≡ Good d m v q → (w ≡ Passed) × (e ≡ d) × (n ≡ m) × (t ≡ v) × (p ≡ q)
good_walk e n t p d m v q (Ok _) good = let same = same_good e n t p d m v q good in (refl, same.0, same.1, same.2, same.3)
good_walk e n t p d m v q (Err r) good = let z : ◌≡◌ {A = ℕ} 0 1 = cc in absurd (let y : ⊥ = omega arith in y)

-- whatever editions a build knows: all of a good file passed, and its edition, N, T and P are those of the answer
pub good_passed : (newest : ℕ) (s : List ℕ) (e n t p : ℕ) → check_by newest s ≡ Good e n t p
    → (then (header_check newest s) (records_check s (actions_in s) (threads_in s) (places_in s)) ≡ Passed) × (edition_in s ≡ e) × (actions_in s ≡ n) × (threads_in s ≡ t) × (places_in s ≡ p)
unfolding check_by
good_passed newest s e n t p good = good_walk (edition_in s) (actions_in s) (threads_in s) (places_in s) e n t p (then (header_check newest s) (records_check s (actions_in s) (threads_in s) (places_in s))) good

pub good_taken : (s : List ℕ) (e n t p : ℕ) → check_of s ≡ Good e n t p → Taken s e n t p
good_taken s e n t p good =
    let w = good_passed newest_edition s e n t p good in
    rw (w.1, w.2, w.3, w.4) at (passed_taken s w.0)

-- edition, N, T and P of the answer are those of the candidate
pub good_candidate : (s : List ℕ) (e n t p : ℕ) → Taken s e n t p → candidate_of s ≡ candidate_with s e n t p
unfolding candidate_of
good_candidate s e n t p g = rw (g.e_is, g.n_is, g.t_is, g.p_is)

-- ---- the reader: 9 did not hold, and the file is good

not_short : (b : Bool) (c : Checked) (e n t p : ℕ) → cond b (Refused ShortBuffer 0) c ≡ Good e n t p → (b ≡ false) × (c ≡ Good e n t p)
not_short true c e n t p good = let z : ◌≡◌ {A = ℕ} 0 1 = cc in absurd (let y : ⊥ = omega arith in y)
not_short false c e n t p good = (refl, good)

pub read_good : (file : List ℕ) (store order e n t p : ℕ) → read_with file store order ≡ Good e n t p → (check_of file ≡ Good e n t p) × (store_length ≤ store) × (order_length ≤ order)
unfolding read_with
read_good file store order e n t p good =
    let a = not_short (short_of store order) (check_of file) e n t p good in
    let b = both_false (ltb store store_length) (ltb order order_length) a.0 in
    (a.1, ltb-false store store_length b.0, ltb-false order order_length b.1)
