-- A good file is determined by the candidate that it gives: no two good files give the same.
use Rattle.std.specs.Prelude.{ℕ, zero, suc, ◌+◌, ◌*◌, ◌-◌, ◌<◌, ◌≤◌, ◌≡◌, List, [], get_or}
use Rattle.std.proofs.Math.Path.{sym, ap}
use Rattle.std.proofs.Common.{◌∙◌, ⊎_elim, arith, mul-zero, mul-suc, ext_get_or, eqb-true}
use Rattle.rows.specs.Laws.Truth.{both_true, lt_or_le}
use Rattle.model.specs.declared.Action.{Action}
use Rattle.model.specs.Actions.{kind_number, order_in, no_action}
use Rattle.model.specs.Candidates.{Candidate, given}
use Rattle.model.specs.Limits.{given_relations}
use Rattle.model.specs.Refusals.{Good}
use Rattle.drawing.specs.Files.{le_at, place_bytes, action_at, row_bytes, rows_length, relation_at, row_at, row_in, end_at, file_length, kind_ok, action_of, fields_ok, candidate_with, candidate_of, check_of}
use Rattle.drawing.specs.Laws.Kinds.{kind_again}
use Rattle.drawing.proofs.Laws.LittleEndian.{Bytes, le_same_bytes}
use Rattle.drawing.specs.Laws.Passed.{Headed}
use Rattle.drawing.proofs.Laws.Good.{Taken, ActionTaken, RelationTaken, good_taken, good_candidate}
use Rattle.drawing.proofs.Laws.Formed.{acts_at, rows_at, places_at, given_at}
use Rattle.drawing.specs.Laws.Sizes.{rows_each}

-- two files have the same bytes from `at` up to `to`
abbrev Same : List ℕ → List ℕ → ℕ → ℕ → Type 0
Same s u at to = (i : ℕ) → at ≤ i → i < to → get_or s i 0 ≡ get_or u i 0

module _ (s u : List ℕ) (sb : Bytes s) (ub : Bytes u) where
  join : (at mid to : ℕ) → Same s u at mid → Same s u mid to → Same s u at to
  join at mid to f g i l h = ⊎_elim (λ (k : i < mid). f i l k) (λ (k : mid ≤ i). g i k h) (lt_or_le i mid)

  -- m stretches of the same size, one after the other
  stretches : (at size m : ℕ) → ((k : ℕ) → k < m → Same s u (at + size * k) (at + size * k + size)) → Same s u at (at + size * m)
  stretches at size zero f i l h = absurd (let z : ⊥ = omega (arith, mul-zero size) in z)
  stretches at size (suc m) f i l h =
      join at (at + size * m) (at + size * m + size) (stretches at size m (λ k b. f k (omega arith))) (f m (omega arith)) i l
      (omega (arith, mul-suc size m))

  one : (at : ℕ) → get_or s at 0 ≡ get_or u at 0 → Same s u at (at + 1)
  one at e i l h = let q : i ≡ at = omega arith in rw (q, e)

  number : (at w : ℕ) → le_at s at w ≡ le_at u at w → Same s u at (at + w)
  number at w e = le_same_bytes s u sb ub at w e

  head : (at kind len : ℕ) → Headed s at kind len → Headed u at kind len → Same s u at (at + 4)
  head at kind len a b =
      join at (at + 2) (at + 4) (number at 2 (a.length_due ∙ sym b.length_due))
      (λ i l h. number (at + 2) 2 (a.kind_due ∙ sym b.kind_due) i l (omega arith))

  action : (t p at : ℕ) → ActionTaken s t p at → ActionTaken u t p at → action_of s at ≡ action_of u at → Same s u at (at + 20)
  unfolding action_of fields_ok
  action t p at a b e =
      let what = ap (λ (x : Action). x.what) e in
      let fs = both_true (kind_ok (get_or s (at + 4) 0) (get_or s (at + 5) 0)) _ a.fields in
      let fu = both_true (kind_ok (get_or u (at + 4) 0) (get_or u (at + 5) 0)) _ b.fields in
      let ks = kind_again (get_or s (at + 4) 0) (get_or s (at + 5) 0) fs.0 in
      let ku = kind_again (get_or u (at + 4) 0) (get_or u (at + 5) 0) fu.0 in
      join at (at + 4) (at + 20) (head at 3 16 a.head b.head)
      (join (at + 4) (at + 5) (at + 20) (λ i l h. one (at + 4) (sym ks.0 ∙ ap kind_number what ∙ ku.0) i l (omega arith))
      (join (at + 5) (at + 6) (at + 20) (λ i l h. one (at + 5) (sym ks.1 ∙ ap order_in what ∙ ku.1) i l (omega arith))
      (join (at + 6) (at + 8) (at + 20) (λ i l h. number (at + 6) 2 (ap (λ (x : Action). x.thread) e) i l (omega arith))
      (join (at + 8) (at + 10) (at + 20) (λ i l h. number (at + 8) 2 (ap (λ (x : Action). x.place) e) i l (omega arith))
      (join (at + 10) (at + 12) (at + 20) (λ i l h. number (at + 10) 2 (eqb-true (le_at s (at + 10) 2) 0 fs.1 ∙ sym (eqb-true (le_at u (at + 10) 2) 0 fu.1)) i l (omega arith))
      (join (at + 12) (at + 16) (at + 20) (λ i l h. number (at + 12) 4 (ap (λ (x : Action). x.read) e) i l (omega arith))
      (λ i l h. number (at + 16) 4 (ap (λ (x : Action). x.written) e) i l (omega arith))))))))

  relation : (n at k : ℕ) → RelationTaken s n at k → RelationTaken u n at k → ((a : ℕ) → a < n → row_in s n at a ≡ row_in u n at a) → Same s u at (at + (6 + rows_length n n))
  relation n at k a b e =
      join at (at + 4) (at + (6 + rows_length n n)) (head at 4 (2 + rows_length n n) a.head b.head)
      (join (at + 4) (at + 6) (at + (6 + rows_length n n)) (λ i l h. number (at + 4) 2 (a.number ∙ sym b.number) i l (omega arith))
      (λ i l h. stretches (at + 6) (row_bytes n) n (λ j m. rw (rows_each n j) (number (row_at n at j) (row_bytes n) (e j m))) i l (omega (arith, rows_each n n))))

  module _ (e n t p : ℕ) (a : Taken s e n t p) (b : Taken u e n t p) (same : candidate_with s e n t p ≡ candidate_with u e n t p) where
    header_same : Same s u 0 12
    header_same =
        join 0 4 12 (head 0 1 8 a.header_head b.header_head)
        (join 4 6 12 (number 4 2 (a.e_is ∙ sym b.e_is))
        (join 6 8 12 (number 6 2 (a.n_is ∙ sym b.n_is))
        (join 8 10 12 (number 8 2 (a.t_is ∙ sym b.t_is)) (number 10 2 (a.p_is ∙ sym b.p_is)))))

    places_same : Same s u 12 (place_bytes + p)
    places_same =
        join 12 place_bytes (place_bytes + p) (head 12 2 p a.places_head b.places_head)
        (λ i l h.
        let q : place_bytes + (i - place_bytes) ≡ i = omega arith in
        let m : i - place_bytes < p = omega arith in
        rw q at (sym (places_at s e n t p (i - place_bytes) m) ∙ ap (λ (X : Candidate). get_or X.places (i - place_bytes) 0) same ∙ places_at u e n t p (i - place_bytes) m))

    actions_same : Same s u (place_bytes + p) (action_at p n)
    actions_same =
        stretches (place_bytes + p) 20 n
        (λ j m.
        action t p (action_at p j) (a.action j m) (b.action j m)
        (sym (acts_at s e n t p j m) ∙ ap (λ (X : Candidate). get_or X.acts j no_action) same ∙ acts_at u e n t p j m))

    rows_same : (k : ℕ) → k < given_relations → (j : ℕ) → j < n → row_in s n (relation_at n p k) j ≡ row_in u n (relation_at n p k) j
    rows_same k h j m =
        sym (rows_at s e n t p k j m) ∙ ap (λ (l : List ℕ). get_or l j 0) (sym (given_at s e n t p k h) ∙ ap (λ (X : Candidate). get_or (given X) k []) same ∙ given_at u e n t p k h)
        ∙ rows_at u e n t p k j m

    relations_same : Same s u (action_at p n) (end_at n p)
    relations_same =
        stretches (action_at p n) (6 + rows_length n n) given_relations
        (λ k h. relation n (relation_at n p k) k (a.relation k h) (b.relation k h) (rows_same k h))

    whole_same : Same s u 0 (file_length n p)
    whole_same =
        join 0 12 (file_length n p) header_same
        (join 12 (place_bytes + p) (file_length n p) places_same
        (join (place_bytes + p) (action_at p n) (file_length n p) actions_same
        (join (action_at p n) (end_at n p) (file_length n p) relations_same (head (end_at n p) 5 0 a.end_head b.end_head))))

    taken_same : s ≡ u
    taken_same =
        ext_get_or 0 s u (a.size ∙ sym b.size) (λ i l. whole_same i (omega arith) (rw a.size at l))

-- equal candidates have equal editions and numbers
numbers_same : (s u : List ℕ) (e n t p d m v q : ℕ) → candidate_with s e n t p ≡ candidate_with u d m v q → (d ≡ e) × (m ≡ n) × (v ≡ t) × (q ≡ p)
unfolding candidate_with
numbers_same s u e n t p d m v q same =
    (sym (ap (λ (X : Candidate). X.edition) same), sym (ap (λ (X : Candidate). X.n) same), sym (ap (λ (X : Candidate). X.t) same), sym (ap (λ (X : Candidate). X.p) same))

-- no two good files give the same candidate
pub file_determined : (s u : List ℕ) (e n t p d m v q : ℕ) → Bytes s → Bytes u → check_of s ≡ Good e n t p → check_of u ≡ Good d m v q → candidate_of s ≡ candidate_of u → s ≡ u
file_determined s u e n t p d m v q sb ub es eu same =
    let a = good_taken s e n t p es in
    let b = good_taken u d m v q eu in
    let c : candidate_with s e n t p ≡ candidate_with u d m v q = sym (good_candidate s e n t p a) ∙ same ∙ good_candidate u d m v q b in
    let z = numbers_same s u e n t p d m v q c in
    taken_same s u sb ub e n t p a (rw (z.0, z.1, z.2, z.3) at b) (rw (z.0, z.1, z.2, z.3) at c)
