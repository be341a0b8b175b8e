-- A text that begins with good lines is read as they say, and its checks pass as far as they go: the first line; with the first places; with the first actions; with the edges.
use Rattle.std.specs.Prelude.{ℕ, ◌+◌, ◌<◌, true, ◌&&◌, ◌≡◌, eqb, length, drop}
use mathlib.Core.List.{List, ◌++◌, append_assoc}
use Rattle.std.proofs.Common.{sym, ap, ap₂, ◌∙◌, arith, zero-add, length-append, ltb-true}
use Rattle.rows.specs.Sets.{Rel}
use Rattle.rows.specs.Numbers.{joined}
use Rattle.model.specs.declared.Action.{Action}
use Rattle.model.specs.Limits.{given_relations}
use Rattle.model.specs.Candidates.{action_ok, place_byte_ok, Values}
use Rattle.model.specs.Refusals.{Passed}
use Rattle.drawing.specs.Files.{walks}
use Rattle.drawing.specs.Laws.Fits.{edition_known}
use Rattle.drawing.specs.Laws.Passed.{walks_pass}
use Rattle.spelling.specs.Spelling.{header_line, place_line, action_line, starts, edition_in, actions_in, threads_in, places_in, header, place_at}
use Rattle.spelling.specs.Laws.Stands.{starts_split, starts_own, starts_first, after_line}
use Rattle.spelling.specs.Laws.Actions.{end_read, Fitted, action_read_lem}
use Rattle.spelling.specs.Laws.First.{header_read, place_read}
use Rattle.text.specs.Texts.{edge_lines, lines_of, along, place_step, action_step, relation_step, edge_taken, barred, place_place, action_place, edge_place, read_place, read_action, bars, read_edge, end_place, limits_ok, first_check, place_test, place_check, action_test, action_check, begin_check}
use Rattle.text.specs.FirstBad.{NoEdge, Lined}
use Rattle.text.proofs.Laws.Taken.{limited, kept_fitted}
use Rattle.text.specs.Laws.Read.{Left, Anything, lines_past, line_left, edges_read, edges_end}

-- ---- what a text begins with

-- of two parts the first,
-- and after it the next
pub starts_next : (u v s : List ℕ) → starts (u ++ v) s ≡ true → drop (length u) s ≡ v ++ drop (length (u ++ v)) s
starts_next u v s e =
    rw zero-add at (after_line s 0 u (v ++ drop (length (u ++ v)) s) (starts_split (u ++ v) s e ∙ append_assoc u v (drop (length (u ++ v)) s)))

-- where it stands
next_left : (u v s : List ℕ) (q : ℕ) → starts (u ++ v) s ≡ true → q ≡ length u → Left s q v Anything
next_left u v s q is at = record { rest = drop (length (u ++ v)) s; is = ap (λ (x : ℕ). drop x s) at ∙ starts_next u v s is; follows = tt }

-- ---- the first line

-- the first line of s says e, n, t and p, and passes
pub record FirstRead (s : List ℕ) (e n t p : ℕ) : Type 0 where
  pub edition_is : edition_in s ≡ e
  pub actions_is : actions_in s ≡ n
  pub threads_is : threads_in s ≡ t
  pub places_is : places_in s ≡ p
  pub passes : first_check s ≡ Passed

pub first_read : (s : List ℕ) (e n t p : ℕ) → limits_ok e n t p ≡ true → starts (header_line e n t p) s ≡ true → FirstRead s e n t p
unfolding first_check
first_read s e n t p limits is =
    let l = limited e n t p limits in
    let (edition, actions, threads, places) = header_read s e n t p (drop (length (header_line e n t p)) s) (omega (arith, edition_known e l.edition)) (omega arith) (omega arith) (omega arith) (starts_split (header_line e n t p) s is) in
    record {
      edition_is = edition;
      actions_is = actions;
      threads_is = threads;
      places_is = places;
      passes = rw (edition, actions, threads, places, is, limits);
    }

-- ---- with the first places

abbrev pub places_text : ℕ → ℕ → ℕ → ℕ → (ℕ → ℕ) → ℕ → List ℕ
places_text e n t p place i = header_line e n t p ++ joined i λ j. place_line (place j)

-- the first i places of s are read as they were written, and pass
pub record PlacesRead (s : List ℕ) (e n t p : ℕ) (place : ℕ → ℕ) (i : ℕ) : Type 0 where
  pub first : FirstRead s e n t p
  pub at : place_place s i ≡ length (places_text e n t p place i)
  pub again : (j : ℕ) → j < i → read_place s j ≡ place j
  pub pass : (j : ℕ) → j < i → place_check s j ≡ Passed

module _ (s : List ℕ) (e n t p : ℕ) (place : ℕ → ℕ) (i : ℕ)
    (limits : limits_ok e n t p ≡ true) (places : (j : ℕ) → j < i → place_byte_ok (place j) ≡ true)
    (is : starts (places_text e n t p place i) s ≡ true) where
  first_line_lem : FirstRead s e n t p
  first_line_lem = first_read s e n t p limits (starts_first (header_line e n t p) (joined i λ j. place_line (place j)) s is)

  header_is : header s ≡ header_line e n t p
  header_is = rw (first_line_lem.edition_is, first_line_lem.actions_is, first_line_lem.threads_is, first_line_lem.places_is)

  place_at_lem : (j : ℕ) → j < i → (q : ℕ) (r : List ℕ) → drop q s ≡ place_line (place j) ++ r → place_at s q ≡ place j
  place_at_lem j l q r d = place_read s q r (place j) (ltb-true (place j) 3 (places j l)) d

  place_steps : (j : ℕ) → j < i → (q : ℕ) (r : List ℕ) → drop q s ≡ place_line (place j) ++ r → place_step s j q ≡ q + length (place_line (place j))
  place_steps j l q r d = rw (place_at_lem j l q r d) (end_read s q (place_line (place j)) r d)

  places_left : Left s (length (header s)) (joined i λ j. place_line (place j)) Anything
  places_left = next_left (header_line e n t p) (joined i λ j. place_line (place j)) s (length (header s)) is (ap (λ (u : List ℕ). length u) header_is)

  place_left : (j : ℕ) → j < i → Left s (place_place s j) (place_line (place j)) Anything
  place_left = line_left s (place_step s) (λ j. place_line (place j)) i place_steps (length (header s)) places_left

  place_again : (j : ℕ) → j < i → read_place s j ≡ place j
  place_again j l = let w = place_left j l in place_at_lem j l (place_place s j) w.rest w.is

  place_passes : (j : ℕ) → j < i → place_check s j ≡ Passed
  unfolding place_test
  place_passes j l = let w = place_left j l in rw (place_again j l, w.is, starts_own (place_line (place j)) w.rest)

  places_end : place_place s i ≡ length (places_text e n t p place i)
  places_end =
      lines_past s (place_step s) (λ j. place_line (place j)) i place_steps (length (header s)) places_left
      ∙ ap (λ (u : List ℕ). length u + length (joined i λ j. place_line (place j))) header_is
      ∙ sym (length-append (header_line e n t p) (joined i λ j. place_line (place j)))

  pub places_read : PlacesRead s e n t p place i
  places_read = record { first = first_line_lem; at = places_end; again = place_again; pass = place_passes }

-- all places pass
pub places_pass : (s : List ℕ) (e n t p : ℕ) (place : ℕ → ℕ) → PlacesRead s e n t p place p → walks (place_check s) 0 (places_in s) ≡ Passed
places_pass s e n t p place read = walks_pass (place_check s) 0 (places_in s) (λ j l. read.pass j (omega (arith, read.first.places_is)))

-- ---- with all places and the first actions

abbrev pub actions_text : ℕ → ℕ → ℕ → ℕ → (ℕ → ℕ) → (ℕ → Action) → ℕ → List ℕ
actions_text e n t p place act i = header_line e n t p ++ ((joined p λ j. place_line (place j)) ++ joined i λ j. action_line (act j))

-- the places of s and its first i actions are read as they were written, and pass
pub record ActionsRead (s : List ℕ) (e n t p : ℕ) (place : ℕ → ℕ) (act : ℕ → Action) (i : ℕ) : Type 0 where
  pub places : PlacesRead s e n t p place p
  pub at : action_place s i ≡ length (actions_text e n t p place act i)
  pub again : (j : ℕ) → j < i → read_action s j ≡ act j
  pub pass : (j : ℕ) → j < i → action_check s j ≡ Passed

module _ (s : List ℕ) (e n t p : ℕ) (place : ℕ → ℕ) (act : ℕ → Action) (i : ℕ)
    (limits : limits_ok e n t p ≡ true) (places : (j : ℕ) → j < p → place_byte_ok (place j) ≡ true)
    (actions : (j : ℕ) → j < i → (action_ok t p (act j) ≡ true) × Values (act j))
    (is : starts (actions_text e n t p place act i) s ≡ true) where
  abbrev action_lines : List ℕ
  action_lines = joined i λ j. action_line (act j)

  parted : actions_text e n t p place act i ≡ places_text e n t p place p ++ action_lines
  parted = sym (append_assoc (header_line e n t p) (joined p λ j. place_line (place j)) action_lines)

  is_parted : starts (places_text e n t p place p ++ action_lines) s ≡ true
  is_parted = rw parted at is

  all_places : PlacesRead s e n t p place p
  all_places = places_read s e n t p place p limits places (starts_first (places_text e n t p place p) action_lines s is_parted)

  actions_at : place_place s (places_in s) ≡ length (places_text e n t p place p)
  actions_at = ap (place_place s) all_places.first.places_is ∙ all_places.at

  action_fitted : (j : ℕ) → j < i → Fitted (act j)
  action_fitted j l =
      let m = limited e n t p limits in
      let (kept, values) = actions j l in
      kept_fitted t p (act j) m.threads m.places kept values

  action_steps : (j : ℕ) → j < i → (q : ℕ) (r : List ℕ) → drop q s ≡ action_line (act j) ++ r → action_step s j q ≡ q + length (action_line (act j))
  action_steps j l q r d = rw (action_read_lem s q r (act j) (action_fitted j l) d) (end_read s q (action_line (act j)) r d)

  actions_left : Left s (place_place s (places_in s)) action_lines Anything
  actions_left = next_left (places_text e n t p place p) action_lines s (place_place s (places_in s)) is_parted actions_at

  action_left : (j : ℕ) → j < i → Left s (action_place s j) (action_line (act j)) Anything
  action_left = line_left s (action_step s) (λ j. action_line (act j)) i action_steps (place_place s (places_in s)) actions_left

  action_again : (j : ℕ) → j < i → read_action s j ≡ act j
  action_again j l = let w = action_left j l in action_read_lem s (action_place s j) w.rest (act j) (action_fitted j l) w.is

  action_passes : (j : ℕ) → j < i → action_check s j ≡ Passed
  unfolding action_test
  action_passes j l =
      let w = action_left j l in
      let first = all_places.first in
      rw (action_again j l, w.is, starts_own (action_line (act j)) w.rest, first.threads_is, first.places_is, (actions j l).0)

  actions_end : action_place s i ≡ length (actions_text e n t p place act i)
  actions_end =
      lines_past s (action_step s) (λ j. action_line (act j)) i action_steps (place_place s (places_in s)) actions_left
      ∙ ap (λ (q : ℕ). q + length action_lines) actions_at
      ∙ sym (length-append (places_text e n t p place p) action_lines)
      ∙ ap (λ (u : List ℕ). length u) (sym parted)

  pub actions_read : ActionsRead s e n t p place act i
  actions_read = record { places = all_places; at = actions_end; again = action_again; pass = action_passes }

-- ---- with all lines but the end

-- the lines of s are read as they were written, and pass
pub record LinesRead (s : List ℕ) (e n t p : ℕ) (place : ℕ → ℕ) (act : ℕ → Action) (r : ℕ → Rel) : Type 0 where
  pub actions : ActionsRead s e n t p place act n
  pub at : end_place s ≡ length (lines_of e n t p place act r)
  pub again : (k a b : ℕ) → k < given_relations → a < n → b < n → read_edge s k a b ≡ r k a b
  pub passes : begin_check s ≡ Passed

module _ (s : List ℕ) (e n t p : ℕ) (place : ℕ → ℕ) (act : ℕ → Action) (r : ℕ → Rel) (lined : Lined e n t p place act r)
    (is : starts (lines_of e n t p place act r) s ≡ true)
    (missing : NoEdge n act r s (length (lines_of e n t p place act r))) where
  lines_parted : lines_of e n t p place act r ≡ actions_text e n t p place act n ++ edge_lines n r
  unfolding lines_of
  lines_parted = simp append_assoc

  is_lines : starts (actions_text e n t p place act n ++ edge_lines n r) s ≡ true
  is_lines = rw lines_parted at is

  all_actions : ActionsRead s e n t p place act n
  all_actions =
      actions_read s e n t p place act n lined.limits lined.places lined.actions
      (starts_first (actions_text e n t p place act n) (edge_lines n r) s is_lines)

  abbrev first : FirstRead s e n t p
  first = all_actions.places.first

  edges_at : edge_place s ≡ length (actions_text e n t p place act n)
  edges_at = ap (action_place s) first.actions_is ∙ all_actions.at

  bars_same : (k a b : ℕ) → a < n → b < n → bars s k a b ≡ barred act k a b
  bars_same k a b ha hb =
      ap₂ (λ (x y : Action). eqb k 1 && eqb x.thread y.thread) (all_actions.again a ha) (all_actions.again b hb)

  lines_length : length (lines_of e n t p place act r) ≡ edge_place s + length (edge_lines n r)
  lines_length =
      ap (λ (u : List ℕ). length u) lines_parted
      ∙ length-append (actions_text e n t p place act n) (edge_lines n r)
      ∙ ap (λ (q : ℕ). q + length (edge_lines n r)) (sym edges_at)

  edges_left : Left s (edge_place s) (edge_lines n r) Anything
  edges_left = next_left (actions_text e n t p place act n) (edge_lines n r) s (edge_place s) is_lines edges_at

  edges_missing : NoEdge n act r s (edge_place s + length (edge_lines n r))
  edges_missing = rw lines_length at missing

  edge_again : (k a b : ℕ) → k < given_relations → a < n → b < n → read_edge s k a b ≡ r k a b
  edge_again k a b hk ha hb =
      ap (λ (m : ℕ). edge_taken s m (bars s) (edge_place s) k a b) first.actions_is
      ∙ edges_read s n (limited e n t p lined.limits).actions act r (bars s) bars_same lined.free (edge_place s) edges_left.rest edges_left.is edges_missing k a b hk ha hb

  lines_end : end_place s ≡ length (lines_of e n t p place act r)
  lines_end =
      ap (λ (m : ℕ). along (relation_step s m (bars s)) (edge_place s) given_relations) first.actions_is
      ∙ edges_end s n (limited e n t p lined.limits).actions act r (bars s) bars_same lined.free (edge_place s) edges_left.rest edges_left.is edges_missing
      ∙ sym lines_length

  lines_pass : begin_check s ≡ Passed
  unfolding begin_check
  lines_pass =
      let places = places_pass s e n t p place all_actions.places in
      let actions = walks_pass (action_check s) 0 (actions_in s) (λ j l. all_actions.pass j (omega (arith, first.actions_is))) in
      rw (first.passes, places, actions)

  pub lines_read : LinesRead s e n t p place act r
  lines_read = record { actions = all_actions; at = lines_end; again = edge_again; passes = lines_pass }
