-- The first line, the places and the actions of a text: the answer, part by part.
use Rattle.std.specs.Prelude.{ℕ, Bool, true, false, ◌&&◌, List, ◌≡◌, ltb, length, Err}
use Rattle.std.proofs.Common.{sym, ◌∙◌, ltb-true}
use Rattle.std.proofs.Math.Bool.{and_comm}
use Rattle.std.proofs.Math.Nat.{zero-add}
use Rattle.model.specs.declared.refusals.Refusal.{Refusal}
use Rattle.model.specs.declared.refusals.Reason.TheVariants.{BadLine}
use Rattle.model.specs.Refusals.{Passed, Walk}
use Rattle.model.proofs.Laws.Refusals.{given_not_refused}
use Rattle.drawing.specs.Files.{then, walks}
use Rattle.drawing.specs.Laws.Passed.{only_if}
use Rattle.spelling.specs.Spelling.{header, stands, word_end, edition_in, actions_in, threads_in, places_in}
use Rattle.spelling.proofs.Laws.Lengths.{header_some}
use Rattle.spelling.specs.Laws.Stands.{moves, stands_moves}
use Rattle.text.specs.Texts.{place_place, edge_place, limits_ok, first_check, place_check, action_check, begin_check, fine, reached}
use Rattle.text.specs.Laws.Walks.{reached_bad}

-- a test that failed is the answer
failed : (b l : Bool) (w : Walk) {r : Refusal} → fine b 0 ≡ Err r → then (fine (b && l) 0) w ≡ Err r
failed true l w e = absurd (given_not_refused tt _ e)
failed false l w e = e

module _ (s : List ℕ) where
  -- whether the first line stands
  abbrev line : Walk
  line = fine (ltb 0 (word_end s 0 (header s))) 0

  -- whether it is within the limits
  abbrev within : Walk
  within = fine (limits_ok (edition_in s) (actions_in s) (threads_in s) (places_in s)) 0

  -- no first line
  pub first_missing : {r : Refusal} → line ≡ Err r → begin_check s ≡ Err r
  unfolding begin_check first_check
  first_missing e = failed (stands s 0 (header s)) _ _ (rw (moves s 0 (header s) (header_some _ _ _ _)) at e)

  -- one beyond the limits
  pub first_beyond : {r : Refusal} → within ≡ Err r → begin_check s ≡ Err r
  unfolding begin_check first_check
  first_beyond e =
      let some = limits_ok (edition_in s) (actions_in s) (threads_in s) (places_in s) in
      rw (and_comm (stands s 0 (header s)) some) (failed some (stands s 0 (header s)) _ e)

  module _ (l : line ≡ Passed) where
    stood : stands s 0 (header s) ≡ true
    stood = sym (moves s 0 (header s) (header_some _ _ _ _)) ∙ (only_if _ BadLine 0 Passed l).0

    pub first_passed : within ≡ Passed → (first_check s ≡ Passed) × (word_end s 0 (header s) ≡ length (header s))
    unfolding first_check
    first_passed e =
        let m = stands_moves s 0 (header s) (header_some _ _ _ _) (ltb-true _ _ (only_if _ BadLine 0 Passed l).0) in
        (rw (stood, e), m.1 ∙ zero-add (length (header s)))

  module _ (first : first_check s ≡ Passed) where
    pub place_bad : {r : Refusal} → reached (walks (place_check s) 0 (places_in s)) (place_place s (places_in s)) ≡ Err r → begin_check s ≡ Err r
    unfolding begin_check
    place_bad {r} e = rw (first, reached_bad (walks (place_check s) 0 (places_in s)) (place_place s (places_in s)) r e)

    module _ (places : walks (place_check s) 0 (places_in s) ≡ Passed) where
      pub action_bad : {r : Refusal} → reached (walks (action_check s) 0 (actions_in s)) (edge_place s) ≡ Err r → begin_check s ≡ Err r
      unfolding begin_check
      action_bad {r} e = rw (first, places, reached_bad (walks (action_check s) 0 (actions_in s)) (edge_place s) r e)

      pub all_passed : walks (action_check s) 0 (actions_in s) ≡ Passed → begin_check s ≡ Passed
      unfolding begin_check
      all_passed actions = rw (first, places, actions)
