-- A candidate that is handed in as a list: a well-formed one within the limits is taken; and every file that is taken can be handed in, so every candidate that a file can hold.
use Rattle.std.specs.Prelude.{ℕ, ◌^◌, ◌<◌, ◌≤◌, true, false, List, [], ◌≡◌, length, get_or}
use Rattle.std.proofs.Common.{⊎_elim, sym, ap, ◌∙◌, lt_of_lt_of_le, arith, pow_pos, pow_mono, ltb-true}
use Rattle.std.proofs.Math.Path.{fun_ext}
use Rattle.std.proofs.Math.ListN.{get_or-eq_default}
use Rattle.rows.specs.Sets.{Set, Rel, none}
use Rattle.rows.specs.Numbers.{bit, rel, size, held}
use Rattle.rows.proofs.Laws.Bits.{bit_zero, bit_above, bit_ext}
use Rattle.rows.specs.Laws.Lists.{listed_ext}
use Rattle.rows.proofs.Laws.Parts.{Words}
use Rattle.rows.specs.Laws.Truth.{lt_or_le}
use Rattle.model.specs.declared.Action.{Action}
use Rattle.model.specs.Limits.{given_relations, store_length}
use Rattle.model.specs.Candidates.{Candidate, given, well_formed, Within}
use Rattle.model.specs.Laws.Formed.{parts}
use Rattle.model.specs.Refusals.{Good, Passed}
use Rattle.drawing.specs.Files.{row_no, rows_of, candidate_with, candidate_of, check_of, file_of, Fileable}
use Rattle.drawing.specs.Laws.Fits.{rows_length_lem, row_low}
use Rattle.drawing.proofs.Laws.Good.{good_taken, good_candidate}
use Rattle.drawing.proofs.Laws.Formed.{given_at, row_is}
use Rattle.drawing.proofs.Laws.Stored.{row_none, rows_rel}
use Rattle.drawing.proofs.Laws.Written.{file_taken, written_good, written_same}
use Rattle.lists.specs.Lists.{row_in, rows_in, list_check, list_candidate}
use Rattle.lists.proofs.Laws.Taken.{Clear, row_held, row_bits, formed_proper, counted_passes}

-- the candidate X, handed in as a list
pub record Handed (X : Candidate) (acts : List Action) (places : List ℕ) (e n t p : ℕ) (s : List ℕ) : Type 0 where
  -- actions, place bytes, edition, N, T, P, and relations 0 to 6 in the store are X's,
  pub same : list_candidate acts places e n t p s ≡ X
  -- rows from N on are zero,
  pub clear : Clear s n
  -- the store has room, and its numbers are of 64 bits
  pub store_room : store_length ≤ length s
  pub words : Words s

-- a well-formed candidate within the limits is taken
pub handed_taken : (X : Candidate) (acts : List Action) (places : List ℕ) (e n t p : ℕ) (s : List ℕ) → Within X → well_formed X ≡ true → Handed X acts places e n t p s → list_check acts places e n t p s ≡ Passed
unfolding list_candidate
handed_taken X acts places e n t p s x w h =
    let y : Within (list_candidate acts places e n t p s) = rw h.same x in
    let f = formed_proper acts places s e n t p h.words h.store_room h.clear y.actions (rw h.same w) in
    counted_passes acts (length acts) places e n t p s
    (record { store_room = h.store_room; edition = f.edition; few_actions = y.actions; few_threads = y.threads; few_places = y.places; actions = f.actions; bytes = f.bytes })
    f.sound

-- ---- every file that is taken can be handed in: its own actions and place bytes, and a store that holds its relations

module _ (file : List ℕ) (e n t p : ℕ) (taken : check_of file ≡ Good e n t p) (s : List ℕ) (words : Words s) (room : store_length ≤ length s) (holds : (k : ℕ) → k < given_relations → held s k ≡ rel (rows_of file n p k)) where
  -- a row of the file has no more columns than one of the store
  row_fits : (k a : ℕ) → k < given_relations → row_no file n p k a < 2 ^ size
  row_fits k a l =
      let g = good_taken file e n t p taken in
      ⊎_elim
      (λ (m : a < n). rw (row_is file n p k a m) (lt_of_lt_of_le (ltb-true _ _ ((g.relation k l).row a m)) (pow_mono g.actions)))
      (λ (m : n ≤ a). rw (row_none file n p k a m) (pow_pos size))
      (lt_or_le a n)

  row_same : (k a : ℕ) → k < given_relations → a < size → row_in s k a ≡ row_no file n p k a
  row_same k a l m =
      bit_ext size (row_in s k a) (row_no file n p k a) (row_bits s words k a) (row_fits k a l)
      (λ b h. ap (λ (r : Set). r b) (sym (row_held s words room k a l m) ∙ ap (λ (r : Rel). r a) (holds k l ∙ rows_rel file n p k)))

  rows_same : (k : ℕ) → k < given_relations → rows_in s n k ≡ rows_of file n p k
  rows_same k l = listed_ext n (row_in s k) (row_no file n p k) (λ i h. row_same k i l (omega (arith, (good_taken file e n t p taken).actions)))

  pub file_handed : Handed (candidate_of file) (candidate_of file).acts (candidate_of file).places e n t p s
  unfolding list_candidate candidate_with
  file_handed =
      rw (good_candidate file e n t p (good_taken file e n t p taken))
      (record {
        same = rw (rows_same 0 (omega arith), rows_same 1 (omega arith), rows_same 2 (omega arith), rows_same 3 (omega arith), rows_same 4 (omega arith), rows_same 5 (omega arith), rows_same 6 (omega arith));
        clear = λ k a l m h. row_same k a l h ∙ row_none file n p k a m;
        store_room = room;
        words = words;
      })

-- ---- so can every candidate that a file can hold, with a store that holds its relations

-- they have no edge from N on,
pub none_from : (X : Candidate) → well_formed X ≡ true → (k a : ℕ) → k < given_relations → X.n ≤ a → rel (get_or (given X) k []) a ≡ none
none_from X formed k a l m =
    ap bit (get_or-eq_default (get_or (given X) k []) 0 (rw (rows_length_lem X.n (get_or (given X) k []) ((parts X formed).rows k l)) m)) ∙ fun_ext bit_zero

-- and none to there
pub none_to : (X : Candidate) → well_formed X ≡ true → (k a b : ℕ) → k < given_relations → X.n ≤ b → rel (get_or (given X) k []) a b ≡ false
none_to X formed k a b l h = ⊎_elim
    (λ (m : a < X.n). bit_above X.n _ b (ltb-true _ _ (row_low X.n (get_or (given X) k []) ((parts X formed).rows k l) a m)) h)
    (λ (m : X.n ≤ a). ap (λ (r : Set). r b) (none_from X formed k a l m))
    (lt_or_le a X.n)

pub held_handed : (X : Candidate) → Fileable X → (s : List ℕ) → Words s → store_length ≤ length s → ((k : ℕ) → k < given_relations → held s k ≡ rel (get_or (given X) k [])) → Handed X X.acts X.places X.edition X.n X.t X.p s
held_handed X f s words room holds =
    let same = written_same X f in
    rw same at
    (file_handed (file_of X) X.edition X.n X.t X.p (written_good X f) s words room
    (λ k l.
    holds k l
    ∙ ap (λ (Y : Candidate). rel (get_or (given Y) k [])) (sym same ∙ good_candidate (file_of X) X.edition X.n X.t X.p (file_taken X f))
    ∙ ap rel (given_at (file_of X) X.edition X.n X.t X.p k l)))
