-- Every candidate that a file can hold has a text that is taken and gives it back; so no two candidates have the same text.
use Rattle.std.specs.Prelude.{ℕ, ◌+◌, ◌^◌, ◌<◌, true, false, List, [], ◌++◌, ◌≡◌, eqb, leb, get_or, drop}
use Rattle.std.proofs.Common.{append-nil, subst, ◌∙◌, arith, le_refl, length-append, ext_get_or, eqb-true, ltb-true, le-leb}
use Rattle.std.proofs.Math.Path.{sym, ap}
use Rattle.std.proofs.Math.ListN.{length}
use Rattle.rows.specs.Sets.{Set, Rel}
use Rattle.rows.specs.Numbers.{bit, number, listed, rel, rows_of}
use Rattle.rows.specs.Laws.Truth.{both_true, and_both, is_false}
use Rattle.rows.specs.Laws.Lists.{listed_length, listed_at}
use Rattle.rows.proofs.Laws.Bits.{number_lt, number_bit, bit_ext}
use Rattle.model.specs.Actions.{no_action}
use Rattle.model.specs.Limits.{most_actions, most_threads, most_places, given_relations}
use Rattle.model.specs.Candidates.{Candidate, given, action_in, rows_ok}
use Rattle.model.specs.Laws.Formed.{parts, different_threads}
use Rattle.model.specs.Refusals.{Passed}
use Rattle.drawing.specs.Files.{Fileable}
use Rattle.drawing.specs.Laws.Fits.{rows_length_lem, row_low}
use Rattle.spelling.specs.Spelling.{edge_line, end_line, starts, stands, actions_in, places_in}
use Rattle.spelling.specs.Laws.Stands.{starts_own, starts_first}
use Rattle.spelling.specs.Laws.Keys.{end_no_edge}
use Rattle.text.specs.Texts.{lines_of, text_with, text_of, barred, read_place, read_action, read_edge, end_place, candidate_in, fine, limits_ok, end_test, lines_check}
use Rattle.text.specs.FirstBad.{NoEdge, Lined}
use Rattle.text.proofs.Laws.Again.{starts_next, FirstRead, LinesRead, lines_read}

-- ---- lists and rows from what they hold

listed_is : {A : Type 0} (l : List A) (d : A) (n : ℕ) (f : ℕ → A) → length l ≡ n → ((i : ℕ) → i < n → f i ≡ get_or l i d) → listed n f ≡ l
listed_is l d n f e h =
    ext_get_or d (listed n f) l (listed_length f n ∙ sym e)
    (λ i b. let c : i < n = rw (listed_length f n) at b in listed_at f n i d c ∙ h i c)

number_is : (n x : ℕ) (s : Set) → x < 2 ^ n → ((b : ℕ) → b < n → s b ≡ bit x b) → number n s ≡ x
number_is n x s l h = bit_ext n (number n s) x (number_lt n s) l (λ b i. number_bit n s b i ∙ h b i)

rows_are : (n : ℕ) (l : List ℕ) (r : Rel) → rows_ok n l ≡ true → ((a b : ℕ) → a < n → b < n → r a b ≡ rel l a b) → rows_of n r ≡ l
rows_are n l r ok h =
    listed_is l 0 n (λ a. number n (r a)) (rows_length_lem n l ok)
    (λ a i. number_is n (get_or l a 0) (r a) (ltb-true (get_or l a 0) (2 ^ n) (row_low n l ok a i)) (λ b j. h a b i j))

-- ---- the lines of a candidate

abbrev pub place_of : Candidate → ℕ → ℕ
place_of X i = get_or X.places i 0

abbrev pub edges_of : Candidate → ℕ → Rel
edges_of X k = rel (get_or (given X) k [])

abbrev pub candidate_lines : Candidate → List ℕ
candidate_lines X = lines_of X.edition X.n X.t X.p (place_of X) (action_in X) (edges_of X)

-- none of its edges is barred
unbarred : (X : Candidate) → Fileable X → (k a b : ℕ) → k < given_relations → a < X.n → b < X.n → edges_of X k a b ≡ true → barred (action_in X) k a b ≡ false
unbarred X h k a b hk ha hb edge =
    is_false _ (λ (t : barred (action_in X) k a b ≡ true).
    let (asw, threads) = both_true (eqb k 1) (eqb (action_in X a).thread (action_in X b).thread) t in
    different_threads X h.formed a b ha hb (subst (λ (j : ℕ). edges_of X j a b ≡ true) (eqb-true k 1 asw) edge) (eqb-true _ _ threads))

pub fileable_lined : (X : Candidate) → Fileable X → Lined X.edition X.n X.t X.p (place_of X) (action_in X) (edges_of X)
unfolding limits_ok
fileable_lined X h =
    let f = parts X h.formed in
    let w = h.within in
    record {
      limits = and_both f.edition (and_both (le-leb X.n most_actions w.actions) (and_both (le-leb X.t most_threads w.threads) (le-leb X.p most_places w.places)));
      places = f.byte;
      actions = λ j l. (f.action j l, h.valued.each j l);
      free = unbarred X h;
    }

-- ---- a text that begins with that of a candidate

module _ (X : Candidate) (h : Fileable X) (s : List ℕ) (is : starts (text_of X) s ≡ true) where
  is_lines : starts (candidate_lines X ++ end_line) s ≡ true
  unfolding text_of text_with
  is_lines = is

  end_next : drop (length (candidate_lines X)) s ≡ end_line ++ drop (length (candidate_lines X ++ end_line)) s
  end_next = starts_next (candidate_lines X) end_line s is_lines

  no_edge_next : NoEdge X.n (action_in X) (edges_of X) s (length (candidate_lines X))
  no_edge_next k a b hk ha hb bar past =
      let w = h.within.actions in
      is_false _ (λ (t : stands s (length (candidate_lines X)) (edge_line k a b) ≡ true).
      end_no_edge k a b (drop (length (candidate_lines X ++ end_line)) s) hk (omega arith) (omega arith) (ap (starts (edge_line k a b)) (sym end_next) ∙ t))

  pub text_read : LinesRead s X.edition X.n X.t X.p (place_of X) (action_in X) (edges_of X)
  text_read =
      lines_read s X.edition X.n X.t X.p (place_of X) (action_in X) (edges_of X) (fileable_lined X h)
      (starts_first (candidate_lines X) end_line s is_lines) no_edge_next

  text_end : end_place s + length end_line ≡ length (text_of X)
  unfolding text_of text_with
  text_end = ap (λ (q : ℕ). q + length end_line) text_read.at ∙ sym (length-append (candidate_lines X) end_line)

  end_stands : stands s (end_place s) end_line ≡ true
  end_stands =
      ap (λ (q : ℕ). stands s q end_line) text_read.at
      ∙ ap (starts end_line) end_next
      ∙ starts_own end_line (drop (length (candidate_lines X ++ end_line)) s)

  -- only what follows the text is left to check
  pub text_check_lem : lines_check s ≡ fine (leb (length s) (length (text_of X))) (length (text_of X))
  unfolding lines_check end_test
  text_check_lem = rw (text_read.passes, end_stands) (ap (λ (q : ℕ). fine (leb (length s) q) q) text_end)

-- ---- the text of a candidate

module _ (X : Candidate) (h : Fileable X) where
  abbrev s : List ℕ
  s = text_of X

  is_own : starts (text_of X) (text_of X) ≡ true
  is_own = ap (starts (text_of X)) (sym (append-nil (text_of X))) ∙ starts_own (text_of X) []

  -- is taken
  pub text_taken : lines_check (text_of X) ≡ Passed
  text_taken = text_check_lem X h (text_of X) is_own ∙ rw (le-leb (length (text_of X)) (length (text_of X)) (le_refl (length (text_of X))))

  read : LinesRead s X.edition X.n X.t X.p (place_of X) (action_in X) (edges_of X)
  read = text_read X h (text_of X) is_own

  numbers : FirstRead s X.edition X.n X.t X.p
  numbers = read.actions.places.first

  places_again : listed (places_in s) (read_place s) ≡ X.places
  places_again =
      ap (λ (m : ℕ). listed m (read_place s)) numbers.places_is
      ∙ listed_is X.places 0 X.p (read_place s) (parts X h.formed).bytes read.actions.places.again

  acts_again : listed (actions_in s) (read_action s) ≡ X.acts
  acts_again =
      ap (λ (m : ℕ). listed m (read_action s)) numbers.actions_is
      ∙ listed_is X.acts no_action X.n (read_action s) (parts X h.formed).actions read.actions.again

  rows_again : (k : ℕ) → k < given_relations → rows_of (actions_in s) (read_edge s k) ≡ get_or (given X) k []
  rows_again k l =
      ap (λ (m : ℕ). rows_of m (read_edge s k)) numbers.actions_is
      ∙ rows_are X.n (get_or (given X) k []) (read_edge s k) ((parts X h.formed).rows k l) (λ a b ha hb. read.again k a b l ha hb)

  -- and gives it back
  pub text_gives : candidate_in (text_of X) ≡ X
  unfolding candidate_in
  text_gives = λ z. record {
    edition = numbers.edition_is z;
    n = numbers.actions_is z;
    t = numbers.threads_is z;
    p = numbers.places_is z;
    places = places_again z;
    acts = acts_again z;
    sb = rows_again 0 (omega arith) z;
    asw = rows_again 1 (omega arith) z;
    dd = rows_again 2 (omega arith) z;
    cd = rows_again 3 (omega arith) z;
    rf = rows_again 4 (omega arith) z;
    sc = rows_again 5 (omega arith) z;
    mo = rows_again 6 (omega arith) z;
  }

-- no two candidates have the same text
pub text_determines : (X Y : Candidate) → Fileable X → Fileable Y → text_of X ≡ text_of Y → X ≡ Y
text_determines X Y h i e = sym (text_gives X h) ∙ ap candidate_in e ∙ text_gives Y i
