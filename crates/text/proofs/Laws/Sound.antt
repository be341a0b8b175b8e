-- A text that is taken is the text of its candidate; and lines that were taken are those that are written of what was read.
use Rattle.std.specs.Prelude.{ℕ, zero, suc, ◌+◌, ◌<◌, Bool, true, false, not, List, [], ◌++◌, ◌≡◌, refl, leb, length, drop, get_or}
use Rattle.std.proofs.Math.Bool.{cond}
use Rattle.std.proofs.Common.{append-nil, sym, ap, ap₂, ◌∙◌, arith, drop_of_length-le, leb-true}
use Rattle.std.proofs.Math.Logic.{⊎_elim}
use Rattle.rows.specs.Sets.{Set, Rel}
use Rattle.rows.specs.Numbers.{joined, rows_of, rel}
use Rattle.rows.specs.Laws.Truth.{both_true, and_2, test}
use Rattle.rows.specs.Laws.Lists.{listed_at, joined_ext}
use Rattle.rows.proofs.Laws.Bits.{rows_bit}
use Rattle.model.specs.declared.Action.{Action}
use Rattle.model.specs.Actions.{no_action}
use Rattle.model.specs.Limits.{given_relations}
use Rattle.model.specs.Candidates.{given, action_in, action_ok}
use Rattle.model.specs.Refusals.{Passed, Walk}
use Rattle.drawing.specs.Files.{walks}
use Rattle.drawing.specs.Laws.Passed.{only_if, both_pass, each_pass}
use Rattle.spelling.specs.Spelling.{header_line, place_line, action_line, edge_line, end_line, stands, edition_in, actions_in, threads_in, places_in, header}
use Rattle.text.specs.Texts.{edge_lines, lines_of, text_with, text_of, along, place_step, action_step, edge_next, edge_step, row_step, row_taken, rows_step, relation_step, edge_taken, place_place, action_place, edge_place, read_place, read_action, bars, read_edge, end_place, candidate_in, limits_ok, first_check, place_test, place_check, action_test, action_check, end_test, begin_check, lines_check}
use Rattle.text.specs.Laws.Standing.{Stretch, nothing_stands, stands_on, starts_on, line_stands, both_stand, along_stands}

-- ---- the edges: whatever is there, those that are taken stand from q on

module _ (s : List ℕ) (n : ℕ) where
  edge_stands : (bar : Set) (k a b q : ℕ) → Stretch s q (cond (edge_next s bar k a b q) (edge_line k a b) []) (edge_step s bar k a b q)
  unfolding edge_step
  edge_stands bar k a b q =
      ⊎_elim
      (λ (e : edge_next s bar k a b q ≡ true). rw e (stands_on s q (edge_line k a b) (and_2 (not (bar b)) _ e)))
      (λ (e : edge_next s bar k a b q ≡ false). rw e (nothing_stands s q))
      (test (edge_next s bar k a b q))

  row_stands : (bar : Set) (k a q : ℕ) → Stretch s q (joined n λ b. cond (row_taken s bar k a q b) (edge_line k a b) []) (row_step s n bar k a q)
  row_stands bar k a q =
      along_stands s (edge_step s bar k a) (λ b. cond (row_taken s bar k a q b) (edge_line k a b) []) q n
      (λ b l. edge_stands bar k a b (along (edge_step s bar k a) q b))

  module _ (bars : ℕ → Rel) where
    relation_stands : (k q : ℕ) → Stretch s q (joined n λ a. joined n λ b. cond (row_taken s (bars k a) k a (rows_step s n bars k q a) b) (edge_line k a b) []) (relation_step s n bars k q)
    relation_stands k q =
        along_stands s (λ a. row_step s n (bars k a) k a) (λ a. joined n λ b. cond (row_taken s (bars k a) k a (rows_step s n bars k q a) b) (edge_line k a b) []) q n
        (λ a l. row_stands (bars k a) k a (rows_step s n bars k q a))

    pub edges_stand : (q : ℕ) → Stretch s q (edge_lines n (edge_taken s n bars q)) (along (relation_step s n bars) q given_relations)
    unfolding edge_taken
    edges_stand q =
        along_stands s (relation_step s n bars) (λ k. joined n λ a. joined n λ b. cond (edge_taken s n bars q k a b) (edge_line k a b) []) q given_relations
        (λ k l. relation_stands k (along (relation_step s n bars) q k))

-- ---- what a line that passed its check tells

-- the first line stands, within the limits
pub first_passed : (s : List ℕ) → first_check s ≡ Passed → (stands s 0 (header s) ≡ true) × (limits_ok (edition_in s) (actions_in s) (threads_in s) (places_in s) ≡ true)
unfolding first_check
first_passed s e = both_true (stands s 0 (header s)) _ (only_if _ _ _ _ e).0

-- place i stands
pub place_passed : (s : List ℕ) (i : ℕ) → place_check s i ≡ Passed → stands s (place_place s i) (place_line (read_place s i)) ≡ true
unfolding place_test
place_passed s i e = (only_if _ _ _ _ e).0

-- action i stands, and keeps the rules
pub action_passed : (s : List ℕ) (i : ℕ) → action_check s i ≡ Passed → (stands s (action_place s i) (action_line (read_action s i)) ≡ true) × (action_ok (threads_in s) (places_in s) (read_action s i) ≡ true)
unfolding action_test
action_passed s i e = both_true (stands s (action_place s i) (action_line (read_action s i))) _ (only_if _ _ _ _ e).0

-- what passed before the edges
pub record Begin (s : List ℕ) : Type 0 where
  pub first : first_check s ≡ Passed
  pub place : (i : ℕ) → i < places_in s → place_check s i ≡ Passed
  pub action : (i : ℕ) → i < actions_in s → action_check s i ≡ Passed

-- each of a walk from 0 that passed
pub each_passed : (f : ℕ → Walk) (m : ℕ) → walks f 0 m ≡ Passed → (i : ℕ) → i < m → f i ≡ Passed
each_passed f m e i l = each_pass f 0 m e i (omega arith) (omega arith)

pub begin_parts : (s : List ℕ) → begin_check s ≡ Passed → Begin s
unfolding begin_check
begin_parts s e =
    let (first, e) = both_pass (first_check s) _ e in
    let (places, actions) = both_pass (walks (place_check s) 0 (places_in s)) _ e in
    record { first = first; place = each_passed (place_check s) (places_in s) places; action = each_passed (action_check s) (actions_in s) actions }

-- ---- the lines, as far as they passed

module _ (s : List ℕ) where
  abbrev place_text : ℕ → List ℕ
  place_text i = joined i λ j. place_line (read_place s j)

  abbrev action_text : ℕ → List ℕ
  action_text i = joined i λ j. action_line (read_action s j)

  first_stands : first_check s ≡ Passed → Stretch s 0 (header s) (length (header s))
  first_stands first = starts_on s (header s) (first_passed s first).0

  place_lines : (i : ℕ) → ((j : ℕ) → j < i → place_check s j ≡ Passed) → Stretch s (length (header s)) (place_text i) (place_place s i)
  place_lines i h =
      along_stands s (place_step s) (λ j. place_line (read_place s j)) (length (header s)) i
      (λ j l. line_stands s (place_place s j) (place_line (read_place s j)) (place_passed s j (h j l)))

  action_lines_lem : (i : ℕ) → ((j : ℕ) → j < i → action_check s j ≡ Passed) → Stretch s (place_place s (places_in s)) (action_text i) (action_place s i)
  action_lines_lem i h =
      along_stands s (action_step s) (λ j. action_line (read_action s j)) (place_place s (places_in s)) i
      (λ j l. line_stands s (action_place s j) (action_line (read_action s j)) (action_passed s j (h j l)).0)

  -- the first line and i places
  pub places_stand : first_check s ≡ Passed → (i : ℕ) → ((j : ℕ) → j < i → place_check s j ≡ Passed) → Stretch s 0 (header s ++ place_text i) (place_place s i)
  places_stand first i h = both_stand s (header s) (place_text i) (first_stands first) (place_lines i h)

  -- the first line, the places and i actions
  pub actions_stand : first_check s ≡ Passed → ((j : ℕ) → j < places_in s → place_check s j ≡ Passed) → (i : ℕ) → ((j : ℕ) → j < i → action_check s j ≡ Passed) → Stretch s 0 (header s ++ (place_text (places_in s) ++ action_text i)) (action_place s i)
  actions_stand first places i h =
      both_stand s (header s) (place_text (places_in s) ++ action_text i) (first_stands first)
      (both_stand s (place_text (places_in s)) (action_text i) (place_lines (places_in s) places) (action_lines_lem i h))

  -- all lines but the end
  abbrev pub lines_in : List ℕ
  lines_in = lines_of (edition_in s) (actions_in s) (threads_in s) (places_in s) (read_place s) (read_action s) (read_edge s)

  pub lines_stand : begin_check s ≡ Passed → Stretch s 0 lines_in (end_place s)
  unfolding lines_of
  lines_stand e =
      let b = begin_parts s e in
      let n = actions_in s in
      let p = places_in s in
      both_stand s (header s) (place_text p ++ (action_text n ++ edge_lines n (read_edge s))) (first_stands b.first)
      (both_stand s (place_text p) (action_text n ++ edge_lines n (read_edge s)) (place_lines p b.place)
      (both_stand s (action_text n) (edge_lines n (read_edge s)) (action_lines_lem n b.action) (edges_stand s n (bars s) (edge_place s))))

  -- and the end
  pub text_stands : begin_check s ≡ Passed → stands s (end_place s) end_line ≡ true → Stretch s 0 (lines_in ++ end_line) (end_place s + length end_line)
  text_stands e last = both_stand s lines_in end_line (lines_stand e) (stands_on s (end_place s) end_line last)

-- ---- the text of its candidate

pub given_in : (s : List ℕ) (k : ℕ) → k < given_relations → get_or (given (candidate_in s)) k [] ≡ rows_of (actions_in s) (read_edge s k)
unfolding candidate_in
given_in s zero l = refl
given_in s (suc zero) l = refl
given_in s (suc (suc zero)) l = refl
given_in s (suc (suc (suc zero))) l = refl
given_in s (suc (suc (suc (suc zero)))) l = refl
given_in s (suc (suc (suc (suc (suc zero))))) l = refl
given_in s (suc (suc (suc (suc (suc (suc zero)))))) l = refl
given_in s (suc (suc (suc (suc (suc (suc (suc k))))))) l = absurd (omega arith)

-- places, actions and edges of the candidate are those that were read
pub place_in : (s : List ℕ) (i : ℕ) → i < places_in s → get_or (candidate_in s).places i 0 ≡ read_place s i
unfolding candidate_in
place_in s i l = listed_at (read_place s) (places_in s) i 0 l

pub action_in_lem : (s : List ℕ) (i : ℕ) → i < actions_in s → action_in (candidate_in s) i ≡ read_action s i
unfolding candidate_in
action_in_lem s i l = listed_at (read_action s) (actions_in s) i no_action l

pub edge_in : (s : List ℕ) (k a b : ℕ) → k < given_relations → a < actions_in s → b < actions_in s → rel (get_or (given (candidate_in s)) k []) a b ≡ read_edge s k a b
edge_in s k a b h i j = ap (λ (x : List ℕ). rel x a b) (given_in s k h) ∙ rows_bit (actions_in s) (read_edge s k) a b i j

-- a text depends on its places, actions and edges below their numbers only
edges_ext : (n : ℕ) (r u : ℕ → Rel) → ((k a b : ℕ) → k < given_relations → a < n → b < n → r k a b ≡ u k a b) → edge_lines n r ≡ edge_lines n u
edges_ext n r u h =
    joined_ext given_relations _ _ (λ k l. joined_ext n _ _ (λ a i. joined_ext n _ _ (λ b j. ap (λ (t : Bool). cond t (edge_line k a b) []) (h k a b l i j))))

pub text_ext :
    (e n t p : ℕ) (f g : ℕ → ℕ) (x y : ℕ → Action) (r u : ℕ → Rel)
    → ((i : ℕ) → i < p → f i ≡ g i)
    → ((i : ℕ) → i < n → x i ≡ y i)
    → ((k a b : ℕ) → k < given_relations → a < n → b < n → r k a b ≡ u k a b)
    → text_with e n t p f x r ≡ text_with e n t p g y u
unfolding text_with lines_of
text_ext e n t p f g x y r u hf hx hr =
    let places = joined_ext p (λ i. place_line (f i)) (λ i. place_line (g i)) (λ i l. ap place_line (hf i l)) in
    let actions = joined_ext n (λ i. action_line (x i)) (λ i. action_line (y i)) (λ i l. ap action_line (hx i l)) in
    ap (λ (l : List ℕ). (header_line e n t p ++ l) ++ end_line) (ap₂ (λ (l m : List ℕ). l ++ m) places (ap₂ (λ (l m : List ℕ). l ++ m) actions (edges_ext n r u hr)))

pub candidate_text : (s : List ℕ) → text_of (candidate_in s) ≡ lines_in s ++ end_line
unfolding text_of text_with candidate_in
candidate_text s =
    text_ext (edition_in s) (actions_in s) (threads_in s) (places_in s) _ (read_place s) _ (read_action s) _ (read_edge s) (place_in s) (action_in_lem s) (edge_in s)

-- no text is taken but the one that is written of its candidate
pub text_again : (s : List ℕ) → lines_check s ≡ Passed → text_of (candidate_in s) ≡ s
unfolding lines_check end_test
text_again s e =
    let (begin, rest) = both_pass (begin_check s) _ e in
    let (last, short) = both_pass _ _ rest in
    let after = end_place s + length end_line in
    let t = text_stands s begin (only_if _ _ _ _ last).0 in
    let over : drop after s ≡ [] = drop_of_length-le s (leb-true (length s) after (only_if (leb (length s) after) _ _ _ short).0) in
    let whole : s ≡ (lines_in s ++ end_line) ++ drop after s = t.is in
    candidate_text s ∙ sym (whole ∙ ap (λ (l : List ℕ). (lines_in s ++ end_line) ++ l) over ∙ append-nil (lines_in s ++ end_line))
