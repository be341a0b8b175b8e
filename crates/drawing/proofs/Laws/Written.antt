-- The file of a well-formed candidate is good, and gives the candidate back.
use Rattle.std.specs.Prelude.{ℕ, ◌+◌, ◌<◌, ◌≡◌, true, get_or}
use Rattle.std.proofs.Math.Path.{refl}
use Rattle.std.proofs.Common.{sym, ap, ◌∙◌, arith, ext_get_or}
use mathlib.Core.List.{[]}
use Rattle.rows.specs.Numbers.{bit, rel}
use Rattle.rows.specs.Laws.Lists.{listed_length}
use Rattle.model.specs.Actions.{no_action}
use Rattle.model.specs.Candidates.{Candidate, given, action_in, to_others, Within, Valued}
use Rattle.model.specs.Limits.{given_relations}
use Rattle.model.specs.Laws.Others.{others_ext}
use Rattle.model.specs.Laws.Formed.{Parts, parts}
use Rattle.model.specs.Refusals.{Good}
use Rattle.drawing.specs.Files.{le_at, le, head_of, header_of, places_of, place_bytes, edition_in, actions_in, threads_in, places_in, action_at, relation_at, row_in, recorded, rows_of, row_no, candidate_with, candidate_of, check_of, file_of, Fileable}
use Rattle.drawing.proofs.Laws.Good.{Taken, good_candidate}
use Rattle.drawing.proofs.Laws.Passes.{taken_good}
use Rattle.drawing.proofs.Laws.Formed.{acts_at, rows_at, places_at, places_length, acts_length}
use Rattle.drawing.specs.Laws.Here.{here_rest, le_here}
use Rattle.drawing.specs.Laws.Fits.{edition_known, actions_fit, rows_length_lem}
use Rattle.drawing.proofs.Laws.Records.{head_length, head_again, action_again, action_written, row_again, relation_written}
use Rattle.drawing.proofs.Laws.Standing.{header_here, places_here, action_here, relation_here, end_here, file_length_lem}

-- the candidate that its file gives
abbrev again : Candidate → Candidate
again X = candidate_with (file_of X) X.edition X.n X.t X.p

module _ (X : Candidate) (w : Within X) (v : Valued X) (f : Parts X) where
  -- ---- what is read of it

  edition_again : edition_in (file_of X) ≡ X.edition
  unfolding header_of head_of le le_at
  edition_again = le_here (header_here X f.bytes) 4 2 (omega arith) ∙ omega (arith, edition_known X.edition f.edition)

  n_again : actions_in (file_of X) ≡ X.n
  unfolding header_of head_of le le_at
  n_again = le_here (header_here X f.bytes) 6 2 (omega arith) ∙ omega (arith, w.actions)

  t_again : threads_in (file_of X) ≡ X.t
  unfolding header_of head_of le le_at
  t_again = le_here (header_here X f.bytes) 8 2 (omega arith) ∙ omega (arith, w.threads)

  p_again : places_in (file_of X) ≡ X.p
  unfolding header_of head_of le le_at
  p_again = le_here (header_here X f.bytes) 10 2 (omega arith) ∙ omega (arith, w.places)

  byte_again : (i : ℕ) → i < X.p → get_or (file_of X) (place_bytes + i) 0 ≡ get_or X.places i 0
  unfolding places_of
  byte_again i l = (here_rest (head_of 2 X.p) (places_here X f.bytes) (head_length 2 X.p) refl).same i (omega (arith, f.bytes))

  act_again : (i : ℕ) → i < X.n → recorded (file_of X) X.p i ≡ action_in X i
  act_again i l = action_again (file_of X) (action_at X.p i) (get_or X.acts i no_action) (action_here X f.bytes i l) (actions_fit X w v f i l)

  number_again : (k a : ℕ) → k < given_relations → a < X.n → row_in (file_of X) X.n (relation_at X.n X.p k) a ≡ get_or (get_or (given X) k []) a 0
  number_again k a h l = row_again (file_of X) (relation_at X.n X.p k) X.n k (get_or (given X) k []) w.actions (f.rows k h) (relation_here X f.bytes k h) a l

  others_again : (a : ℕ) → a < X.n → to_others X.n (recorded (file_of X) X.p) (bit (row_in (file_of X) X.n (relation_at X.n X.p 1) a)) a ≡ true
  others_again a l =
      others_ext X.n (recorded (file_of X) X.p) (action_in X) (bit (row_in (file_of X) X.n (relation_at X.n X.p 1) a)) (rel X.asw a) a l act_again (ap bit (number_again 1 a (omega arith) l))
      ∙ f.others a l

  -- ---- it is good

  parts_taken : Taken (file_of X) X.edition X.n X.t X.p
  unfolding header_of places_of head_of le
  parts_taken =
      record {
        e_is = edition_again;
        n_is = n_again;
        t_is = t_again;
        p_is = p_again;
        edition = f.edition;
        actions = w.actions;
        threads = w.threads;
        places = w.places;
        header_head = head_again 1 8 _ (omega arith) (omega arith) refl (header_here X f.bytes);
        places_head = head_again 2 X.p X.places (omega arith) (omega (arith, w.places)) f.bytes (places_here X f.bytes);
        place = λ i l. rw (byte_again i l) (f.byte i l);
        action = λ i l. action_written (file_of X) (action_at X.p i) (get_or X.acts i no_action) (action_here X f.bytes i l) (actions_fit X w v f i l) X.t X.p (f.action i l);
        relation = λ k l. relation_written (file_of X) (relation_at X.n X.p k) X.n k (get_or (given X) k []) w.actions (f.rows k l) (relation_here X f.bytes k l) (omega arith);
        others = others_again;
        end_head = head_again 5 0 [] (omega arith) (omega arith) refl (end_here X f.bytes);
        size = file_length_lem X f.bytes;
      }

  -- ---- the candidate that it gives

  places_same : (again X).places ≡ X.places
  places_same =
      let e = places_length (file_of X) X.edition X.n X.t X.p parts_taken in
      ext_get_or 0 (again X).places X.places (e ∙ sym f.bytes) (λ i l. places_at (file_of X) X.edition X.n X.t X.p i (rw e at l) ∙ byte_again i (rw e at l))

  acts_same : (again X).acts ≡ X.acts
  acts_same =
      let e = acts_length (file_of X) X.edition X.n X.t X.p parts_taken in
      ext_get_or no_action (again X).acts X.acts (e ∙ sym f.actions) (λ i l. acts_at (file_of X) X.edition X.n X.t X.p i (rw e at l) ∙ act_again i (rw e at l))

  rows_same : (k : ℕ) → k < given_relations → rows_of (file_of X) X.n X.p k ≡ get_or (given X) k []
  rows_same k h =
      let e = listed_length (row_no (file_of X) X.n X.p k) X.n in
      ext_get_or 0 (rows_of (file_of X) X.n X.p k) (get_or (given X) k []) (e ∙ sym (rows_length_lem X.n (get_or (given X) k []) (f.rows k h)))
      (λ a l. rows_at (file_of X) X.edition X.n X.t X.p k a (rw e at l) ∙ number_again k a h (rw e at l))

  same_again : again X ≡ X
  unfolding candidate_with
  same_again =
      rw (places_same, acts_same, rows_same 0 (omega arith), rows_same 1 (omega arith), rows_same 2 (omega arith), rows_same 3 (omega arith), rows_same 4 (omega arith), rows_same 5 (omega arith), rows_same 6 (omega arith))

-- a written file is good
pub file_taken : (X : Candidate) → Fileable X → Taken (file_of X) X.edition X.n X.t X.p
file_taken X f = parts_taken X f.within f.valued (parts X f.formed)

pub written_good : (X : Candidate) → Fileable X → check_of (file_of X) ≡ Good X.edition X.n X.t X.p
written_good X f = taken_good (file_of X) X.edition X.n X.t X.p (file_taken X f)

-- and gives the candidate that was written
pub written_same : (X : Candidate) → Fileable X → candidate_of (file_of X) ≡ X
written_same X f =
    good_candidate (file_of X) X.edition X.n X.t X.p (file_taken X f) ∙ same_again X f.within f.valued (parts X f.formed)
