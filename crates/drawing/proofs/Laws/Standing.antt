-- Where the records of a candidate's file stand, and how long it is.
use Rattle.std.specs.Prelude.{ℕ, ◌+◌, ◌*◌, ◌<◌, ◌≡◌, List, [], ◌++◌, length, get_or}
use Rattle.std.proofs.Math.Path.{refl}
use Rattle.std.proofs.Common.{arith}
use Rattle.std.proofs.Math.ListN.{length-append}
use Rattle.rows.specs.Numbers.{joined}
use Rattle.rows.specs.Laws.Lists.{joined_width}
use Rattle.model.specs.Actions.{no_action}
use Rattle.model.specs.Candidates.{Candidate, given}
use Rattle.model.specs.Limits.{given_relations}
use Rattle.drawing.specs.Files.{le, head_of, header_of, places_of, action_record, relation_record, end_of, place_bytes, action_at, rows_length, relation_at, end_at, file_length, file_of}
use Rattle.drawing.specs.Laws.Here.{Here, here_whole, here_first, here_rest, here_part}
use Rattle.drawing.proofs.Laws.Records.{head_length, action_length, relation_length}

header_length : (e n t p : ℕ) → length (header_of e n t p) ≡ 12
unfolding header_of head_of le
header_length e n t p = refl

module _ (X : Candidate) where
  -- the record of action i
  abbrev action_text : ℕ → List ℕ
  action_text i = action_record (get_or X.acts i no_action)

  -- the record of relation k
  abbrev relation_text : ℕ → List ℕ
  relation_text k = relation_record X.n k (get_or (given X) k [])

  actions_width : length (joined X.n action_text) ≡ 20 * X.n
  actions_width = joined_width action_text 20 (λ i. action_length (get_or X.acts i no_action)) X.n

  relations_width : length (joined given_relations relation_text) ≡ (6 + rows_length X.n X.n) * given_relations
  relations_width = joined_width relation_text (6 + rows_length X.n X.n) (λ k. relation_length X.n k (get_or (given X) k [])) given_relations

  module _ (e : length X.places ≡ X.p) where
    places_width : length (places_of X.p X.places) ≡ 4 + X.p
    unfolding places_of
    places_width = omega (arith, length-append (head_of 2 X.p) X.places, head_length 2 X.p)

    -- ---- where the records stand

    pub header_here : Here (file_of X) 0 (header_of X.edition X.n X.t X.p)
    unfolding file_of
    header_here = here_first _ (here_whole (file_of X))

    -- the places and all that follows
    places_on : Here (file_of X) 12 (places_of X.p X.places ++ (joined X.n action_text ++ (joined given_relations relation_text ++ end_of)))
    unfolding file_of
    places_on = here_rest (header_of X.edition X.n X.t X.p) (here_whole (file_of X)) (header_length X.edition X.n X.t X.p) refl

    pub places_here : Here (file_of X) 12 (places_of X.p X.places)
    places_here = here_first _ places_on

    actions_on : Here (file_of X) (place_bytes + X.p) (joined X.n action_text ++ (joined given_relations relation_text ++ end_of))
    actions_on = here_rest (places_of X.p X.places) places_on places_width (omega arith)

    relations_on : Here (file_of X) (action_at X.p X.n) (joined given_relations relation_text ++ end_of)
    relations_on = here_rest (joined X.n action_text) actions_on actions_width refl

    pub end_here : Here (file_of X) (end_at X.n X.p) end_of
    end_here = here_rest (joined given_relations relation_text) relations_on relations_width refl

    pub action_here : (i : ℕ) → i < X.n → Here (file_of X) (action_at X.p i) (action_text i)
    action_here = here_part action_text 20 (λ i. action_length (get_or X.acts i no_action)) X.n (here_first _ actions_on)

    pub relation_here : (k : ℕ) → k < given_relations → Here (file_of X) (relation_at X.n X.p k) (relation_text k)
    relation_here = here_part relation_text (6 + rows_length X.n X.n) (λ k. relation_length X.n k (get_or (given X) k [])) given_relations (here_first _ relations_on)

    pub file_length_lem : length (file_of X) ≡ file_length X.n X.p
    unfolding file_of
    file_length_lem =
        simp (length-append, header_length, head_length) (omega (arith, places_width, actions_width, relations_width))
