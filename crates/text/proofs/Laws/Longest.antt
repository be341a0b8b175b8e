-- No text is longer than longestText.
use Rattle.std.specs.Prelude.{ℕ, ◌+◌, ◌*◌, ◌<◌, ◌≤◌, Bool, true, false, not, cond, ◌&&◌, List, [], ◌++◌, ◌≡◌, refl, eqb, ltb, length, get_or}
use Rattle.std.proofs.Common.{zero-le, le_refl, le_trans, ltb-true}
use native.Mathlib.Omega.{arith}
use Rattle.std.proofs.Math.ListN.{length-append}
use Rattle.rows.specs.Sets.{Rel, sum}
use Rattle.rows.specs.Numbers.{joined, rel}
use Rattle.rows.proofs.Laws.Quantifiers.{sum_le}
use Rattle.rows.specs.Laws.Truth.{both_true, not_both}
use Rattle.model.specs.declared.Action.{Action}
use Rattle.model.specs.Limits.{most_actions, most_threads, most_places, given_relations}
use Rattle.model.specs.Candidates.{Candidate, given, action_in, is_fence, place_ok, values_ok, action_ok, Values}
use Rattle.drawing.specs.Files.{Fileable}
use Rattle.drawing.specs.Laws.Fits.{edition_known}
use Rattle.page.specs.Lines.{digits, decimal}
use Rattle.page.specs.Laws.Lengths.{joined_most}
use Rattle.spelling.specs.Spelling.{header_line, place_line, action_line, relation_word, edge_line, end_line}
use Rattle.spelling.proofs.Laws.Lengths.{first_length, place_length, action_length, edge_parts}
use Rattle.text.proofs.Laws.Taken.{limited}
use Rattle.text.proofs.Laws.Candidates.{fileable_lined}
use Rattle.text.specs.Texts.{edge_lines, lines_of, text_with, text_of, limits_ok, all_digits, longest_text}

-- ---- edges

-- bytes of the line of an edge of relation k
abbrev edge_bytes : ℕ → ℕ → ℕ → ℕ
edge_bytes k a b = length (relation_word k) + (length (decimal a) + (length (decimal b) + 3))

-- of all edges that there can be
every_edge : sum given_relations (λ k. sum most_actions (λ a. sum most_actions (λ b. edge_bytes k a b))) ≡ given_relations * (5 * (most_actions * most_actions) + 2 * (most_actions * all_digits)) + most_actions * most_actions
unfolding sum decimal digits relation_word
every_edge = refl

edge_line_lem : (t : Bool) (k a b : ℕ) → length (cond t (edge_line k a b) []) ≤ edge_bytes k a b
edge_line_lem true k a b = rw (edge_parts k a b) (le_refl (edge_bytes k a b))
edge_line_lem false k a b = zero-le

edges_length : (n : ℕ) (r : ℕ → Rel) → n ≤ most_actions → length (edge_lines n r) ≤ given_relations * (5 * (most_actions * most_actions) + 2 * (most_actions * all_digits)) + most_actions * most_actions
edges_length n r l =
    rw (← every_edge)
    (joined_most given_relations given_relations (λ k. joined n λ a. joined n λ b. cond (r k a b) (edge_line k a b) []) (λ k. sum most_actions (λ a. sum most_actions (λ b. edge_bytes k a b))) (le_refl given_relations) (λ k hk.
    joined_most n most_actions (λ a. joined n λ b. cond (r k a b) (edge_line k a b) []) (λ a. sum most_actions (λ b. edge_bytes k a b)) l (λ a ha.
    joined_most n most_actions (λ b. cond (r k a b) (edge_line k a b) []) (λ b. edge_bytes k a b) l (λ b hb. edge_line_lem (r k a b) k a b))))

-- ---- places and actions

-- n lines, at most `most`, none of them longer than w
each_most : (n most w : ℕ) (f : ℕ → List ℕ) → n ≤ most → ((i : ℕ) → i < n → length (f i) ≤ w) → length (joined n f) ≤ w * most
each_most n most w f l h = le_trans (joined_most n most f (λ i. w) l h) (sum_le most w (λ i. w) (λ i m. le_refl w))

kept_length : (t p : ℕ) (x : Action) → t ≤ most_threads → p ≤ most_places → action_ok t p x ≡ true → Values x → length (action_line x) ≤ 40
unfolding action_ok
kept_length t p x ht hp ok fits =
    let both = both_true (ltb x.thread t && place_ok p x) (values_ok x) ok in
    let fields = both_true (ltb x.thread t) (place_ok p x) both.0 in
    action_length x (omega (arith, ltb-true x.thread t fields.0)) (λ has. below (is_fence x) has fields.1) fits.0 fits.1
  where
    below : (fence : Bool) → not fence ≡ true → cond fence (eqb x.place 65535) (ltb x.place p) ≡ true → x.place < 100
    below true has e = not_both has refl
    below false has e = omega (arith, ltb-true x.place p e)

-- ---- the whole text

module _ (e n t p : ℕ) (ok : limits_ok e n t p ≡ true) (place : ℕ → ℕ) where
  first_most : length (header_line e n t p) ≤ 20
  first_most = let l = limited e n t p ok in first_length e n t p (omega (arith, edition_known e l.edition)) (omega (arith, l.actions)) (omega (arith, l.threads)) (omega (arith, l.places))

  places_most : (i : ℕ) → i ≤ p → length (joined i λ j. place_line (place j)) ≤ 7 * most_places
  places_most i m = each_most i most_places 7 (λ j. place_line (place j)) (omega (arith, (limited e n t p ok).places)) (λ j h. place_length (place j))

  -- the first line and some places
  pub places_length : (i : ℕ) → i ≤ p → length (header_line e n t p ++ joined i λ j. place_line (place j)) ≤ longest_text
  places_length i m = omega (arith, length-append (header_line e n t p) (joined i λ j. place_line (place j)), first_most, places_most i m)

  module _ (act : ℕ → Action) where
    abbrev place_text : List ℕ
    place_text = joined p λ j. place_line (place j)

    abbrev action_text : ℕ → List ℕ
    action_text i = joined i λ j. action_line (act j)

    actions_most : (i : ℕ) → i ≤ n → ((j : ℕ) → j < i → (action_ok t p (act j) ≡ true) × Values (act j)) → length (action_text i) ≤ 40 * most_actions
    actions_most i m kept =
        let l = limited e n t p ok in
        each_most i most_actions 40 (λ j. action_line (act j)) (omega (arith, l.actions)) (λ j h. kept_length t p (act j) l.threads l.places (kept j h).0 (kept j h).1)

    -- the first line, its places and some actions
    pub actions_length : (i : ℕ) → i ≤ n → ((j : ℕ) → j < i → (action_ok t p (act j) ≡ true) × Values (act j)) → length (header_line e n t p ++ (place_text ++ action_text i)) ≤ longest_text
    actions_length i m kept =
        omega (arith, length-append (header_line e n t p) (place_text ++ action_text i), length-append place_text (action_text i), first_most, places_most p (le_refl p), actions_most i m kept)

    -- all lines but the end, and with it
    pub lines_length : (r : ℕ → Rel) → ((j : ℕ) → j < n → (action_ok t p (act j) ≡ true) × Values (act j)) → length (lines_of e n t p place act r) + length end_line ≤ longest_text
    unfolding lines_of
    lines_length r kept =
        omega (
          arith,
          length-append (header_line e n t p) (place_text ++ (action_text n ++ edge_lines n r)),
          length-append place_text (action_text n ++ edge_lines n r),
          length-append (action_text n) (edge_lines n r),
          first_most,
          places_most p (le_refl p),
          actions_most n (le_refl n) kept,
          edges_length n r (limited e n t p ok).actions,
        )

-- No text is longer.
pub text_length : (X : Candidate) → Fileable X → length (text_of X) ≤ longest_text
unfolding text_of text_with
text_length X f =
    let place : ℕ → ℕ = λ i. get_or X.places i 0 in
    let r : ℕ → Rel = λ k. rel (get_or (given X) k []) in
    let h = fileable_lined X f in
    omega (arith, length-append (lines_of X.edition X.n X.t X.p place (action_in X) r) end_line, lines_length X.edition X.n X.t X.p h.limits place (action_in X) r h.actions)
