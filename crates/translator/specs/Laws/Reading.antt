-- What was read of a text that passed up to its edges, as it is handed to the writer: actions and place bytes in arrays, relations in the store.
use Rattle.std.specs.Prelude.{ℕ, ◌<◌, ◌≤◌, cond, ◌&&◌, List, [], ◌≡◌, refl, ltb, length, get_or, take, Ok, Err}
use Rattle.std.proofs.Math.Bool.{and-true, and-false}
use Rattle.std.proofs.Math.Logic.{⊎_elim}
use Rattle.std.proofs.Math.Path.{sym, fun_ext}
use Rattle.std.proofs.Common.{subst, ◌∙◌, arith}
use borrow.Author.Tests.{lt-ltb, le-ltb}
use Rattle.rows.specs.Sets.{Rel, before}
use Rattle.rows.specs.Numbers.{listed, rel, held}
use Rattle.rows.specs.Laws.Lists.{listed_at, listed_take, listed_ext}
use Rattle.rows.proofs.Laws.Parts.{Words}
use Rattle.rows.specs.Laws.Truth.{lt_or_le}
use Rattle.model.specs.declared.Action.{Action}
use Rattle.model.specs.Actions.{no_action}
use Rattle.model.specs.Limits.{most_actions, most_places, given_relations, store_length}
use Rattle.model.specs.Candidates.{Candidate, given}
use Rattle.model.specs.declared.refusals.Refusal.{Refusal}
use Rattle.model.proofs.Laws.Refusals.{given_not_refused}
use Rattle.model.specs.Refusals.{Passed, Walk}
use Rattle.drawing.specs.Files.{Fileable}
use Rattle.lists.proofs.Laws.Handed.{Handed, none_from, none_to, held_handed}
use Rattle.spelling.specs.Spelling.{edition_in, actions_in, threads_in, places_in, header}
use Rattle.text.specs.Texts.{along, relation_step, edge_taken, place_place, edge_place, read_place, read_action, bars, end_place, candidate_in, end_test, begin_check, lines_check, begun}
use Rattle.text.specs.Parts.{place_no, action_no, bars_of}
use Rattle.text.proofs.Laws.Sound.{edge_in}
use Rattle.text.specs.Laws.Barring.{relations_ext, taken_ext}
use Rattle.text.proofs.Laws.Taken.{begun_fileable}
use Rattle.text.specs.Reads.{Begun, Good as Begins}
use Rattle.translator.specs.Translates.{Unfilled}

-- ---- as code has it

-- places and actions, in arrays
abbrev pub place_list : List ℕ → ℕ → ℕ → List ℕ
place_list s a p = listed most_places (place_no s a p)

abbrev pub action_list : List ℕ → ℕ → ℕ → List Action
action_list s b n = listed most_actions (action_no s b n)

-- where the edges from c on end
abbrev pub end_after : List ℕ → ℕ → List Action → ℕ → ℕ
end_after s n list c = along (relation_step s n (bars_of list)) c given_relations

-- a store that held old, filled with them so that it holds new
abbrev pub Filled : List ℕ → ℕ → List Action → ℕ → (ℕ → Rel) → (ℕ → Rel) → Type 0
Filled s n list c old new =
    (j x : ℕ) → new j x ≡ cond (ltb j given_relations && ltb x n) (before (edge_taken s n (bars_of list) c j x) n) (old j x)

-- ---- it is the candidate's

-- the first m of a longer list
first_lent : {A : Type 0} (f : ℕ → A) (d : A) (m most : ℕ) → m ≤ most → take m (listed most λ i. cond (ltb i m) (f i) d) ≡ listed m f
first_lent f d m most l = listed_take (λ i. cond (ltb i m) (f i) d) m most l ∙ listed_ext m (λ i. cond (ltb i m) (f i) d) f (λ i h. rw (lt-ltb i m h))

module _ (s : List ℕ) (passed : begin_check s ≡ Passed) where
  abbrev X : Candidate
  X = candidate_in s

  abbrev n : ℕ
  n = actions_in s

  abbrev list : List Action
  list = action_list s (place_place s (places_in s)) n

  fileable : Fileable X
  fileable = begun_fileable s passed

  few : (n ≤ most_actions) × (places_in s ≤ most_places)
  unfolding candidate_in
  few = (fileable.within.actions, fileable.within.places)

  places_lent : take (places_in s) (place_list s (length (header s)) (places_in s)) ≡ X.places
  unfolding candidate_in place_no
  places_lent = first_lent (read_place s) 0 (places_in s) most_places few.1

  acts_lent : take n list ≡ X.acts
  unfolding candidate_in action_no
  acts_lent = first_lent (read_action s) no_action n most_actions few.0

  -- what the array bars the text bars
  listed_act : (i : ℕ) → i < n → get_or list i no_action ≡ read_action s i
  unfolding action_no
  listed_act i l = listed_at (action_no s (place_place s (places_in s)) n) most_actions i no_action (omega (arith, few)) ∙ rw (lt-ltb i n l)

  bars_same : (k x y : ℕ) → x < n → y < n → bars_of list k x y ≡ bars s k x y
  bars_same k x y i j = rw (listed_act x i, listed_act y j)

  end_same : end_after s n list (edge_place s) ≡ end_place s
  end_same = relations_ext s n (bars_of list) (bars s) bars_same (edge_place s) given_relations

  -- the store holds its relations
  module _ (old new : ℕ → Rel) (empty : Unfilled old) (filled : Filled s n list (edge_place s) old new) where
    edge_held : (k x y : ℕ) → k < given_relations → x < n → before (edge_taken s n (bars_of list) (edge_place s) k x) n y ≡ rel (get_or (given X) k []) x y
    unfolding candidate_in
    edge_held k x y l i =
        let taken = edge_taken s n (bars_of list) (edge_place s) k x y in
        ⊎_elim
        (λ (j : y < n). rw (lt-ltb y n j) (and-true taken ∙ taken_ext s n (bars_of list) (bars s) bars_same (edge_place s) k x y i j ∙ sym (edge_in s k x y l i j)))
        (λ (j : n ≤ y). rw (le-ltb y n j) (and-false taken ∙ sym (none_to X fileable.formed k x y l j)))
        (lt_or_le y n)

    relation_held : (k : ℕ) → k < given_relations → new k ≡ rel (get_or (given X) k [])
    unfolding candidate_in
    relation_held k l = fun_ext λ x. filled k x ∙ ⊎_elim
        (λ (i : x < n). rw (lt-ltb k given_relations l, lt-ltb x n i) (fun_ext λ y. edge_held k x y l i))
        (λ (i : n ≤ x). rw (lt-ltb k given_relations l, le-ltb x n i) (empty k x l ∙ sym (none_from X fileable.formed k x l i)))
        (lt_or_le x n)

-- ---- by what was told of it

pub begun_bad : (w : Walk) (s : List ℕ) (r : Refusal) → begun w s ≡ Err r → w ≡ Err r
begun_bad (Ok _) s r told = absurd (given_not_refused _ r told)
begun_bad (Err q) s r told = cc

abbrev ForGood : (ℕ → ℕ → ℕ → ℕ → ℕ → ℕ → ℕ → Type 0) → Begun → Type 0
ForGood P (Ok x) = P x.head.edition x.head.n x.head.t x.head.p x.places x.actions x.edges
ForGood P (Err r) = Unit {0}

module _ (s : List ℕ) (e n t p a b c : ℕ) (told : begun (begin_check s) s ≡ Begins e n t p a b c) where
  -- what holds of the text's numbers and places, where it passed, holds of those that were told
  for_told : (P : ℕ → ℕ → ℕ → ℕ → ℕ → ℕ → ℕ → Type 0)
      → (begin_check s ≡ Passed → P (edition_in s) (actions_in s) (threads_in s) (places_in s) (length (header s)) (place_place s (places_in s)) (edge_place s)) → P e n t p a b c
  for_told P base = go (begin_check s) refl told
    where
      go : (w : Walk) → begin_check s ≡ w → begun w s ≡ Begins e n t p a b c → P e n t p a b c
      go (Ok _) f told = subst (ForGood P) told (base f)
      go (Err r) f told = absurd (given_not_refused _ r (sym told))

  -- N and P are within their limits
  pub begun_few : (n ≤ most_actions) × (p ≤ most_places)
  begun_few = for_told (λ e n t p a b c. (n ≤ most_actions) × (p ≤ most_places)) (few s)

  module _ (list : List Action) (is : list ≡ action_list s b n) where
    -- only the end is left to check
    pub end_left : lines_check s ≡ end_test s (end_after s n list c)
    unfolding lines_check
    end_left =
        rw is
        (for_told (λ e n t p a b c. lines_check s ≡ end_test s (end_after s n (action_list s b n) c)) (λ passed. rw (passed, end_same s passed)))

    -- the candidate can be handed in with the first N actions, the first P bytes, and the store
    pub text_handed : (bytes : List ℕ) → bytes ≡ place_list s a p → (old : ℕ → Rel) → Unfilled old → (u : List ℕ) → Words u → store_length ≤ length u → Filled s n list c old (held u)
        → Handed (candidate_in s) (take n list) (take p bytes) e n t p u
    unfolding candidate_in
    text_handed bytes same old empty u words room =
        rw (is, same)
        (for_told (λ e n t p a b c. Filled s n (action_list s b n) c old (held u) → Handed (candidate_in s) (take n (action_list s b n)) (take p (place_list s a p)) e n t p u)
        (λ passed filled. rw (acts_lent s passed, places_lent s passed) (held_handed (candidate_in s) (fileable s passed) u words room (relation_held s passed old (held u) empty filled))))
