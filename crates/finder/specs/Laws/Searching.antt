-- What the search of a list that passed the check comes to.
use Rattle.std.specs.Prelude.{ℕ, ◌+◌, ◌*◌, ◌-◌, ◌/◌, ◌%◌, ◌<◌, ◌≤◌, false, List, [], ◌++◌, ◌≡◌, ltb, eqb, length, get_or, take, drop}
use Rattle.std.proofs.Common.{append_assoc, inl, ◌∙◌, lit<, lit≤, length-append, take-append-drop, pow_pos, ext_get_or, get_or-take, length-take-le, get_or-append-add}
use Rattle.std.proofs.Math.Logic.{⊎_elim}
use Rattle.std.proofs.Math.Path.{refl, sym, ap}
use native.Mathlib.Omega.{arith}
use Rattle.std.proofs.Math.ListN.{get_or-append, get_or-eq_default}
use borrow.Author.Tests.{lt-ltb, lt-leb, le-leb, ltb-false, eqb-true}
use borrow.Rule.Slice.PartMut.{put_mid}
use Rattle.rows.specs.Sets.{Rel, none, never}
use Rattle.rows.specs.Numbers.{bit, listed, digit, rel, width, wide, area, held}
use Rattle.rows.proofs.Laws.Bits.{bit_zero}
use Rattle.rows.proofs.Laws.Members.{digit_is}
use Rattle.rows.specs.Laws.Lists.{listed_length, listed_at}
use Rattle.rows.proofs.Laws.Parts.{Words, held_number}
use Rattle.rows.specs.Laws.Truth.{lt_or_le}
use Rattle.model.specs.declared.Action.{Action}
use Rattle.model.specs.Actions.{no_action}
use Rattle.model.specs.Limits.{newest_edition, given_length, store_length, all_relations}
use Rattle.model.specs.Candidates.{Candidate, given, edition_ok}
use Rattle.model.specs.Words.{book_from, book_of}
use Rattle.model.specs.Model.{Book, filled}
use Rattle.model.specs.Judge.{book}
use Rattle.model.specs.Store.{store_of}
use Rattle.model.specs.Laws.Stores.{store_is}
use Rattle.model.specs.Refusals.{Passed}
use Rattle.drawing.specs.Laws.Passed.{unless, only_if, both_pass, each_pass}
use Rattle.words.specs.Sheet.{Sheet}
use Rattle.words.specs.Laws.Book.{book_given}
use Rattle.lists.specs.declared.Gathered.{Gathered}
use Rattle.lists.specs.Lists.{Stands, counted_check, row_in, rows_in, list_candidate}
use Rattle.lists.proofs.Laws.Taken.{counted_sized}
use Rattle.lists.proofs.Laws.Stands.{same_acts}
use Rattle.second.specs.Laws.Settled.{front_words, front_held}
use Rattle.choices.specs.declared.Outcome.{Outcome}
use Rattle.choices.specs.declared.Outcome.TheVariants.{Found, None, Undecided}
use Rattle.choices.specs.Outcomes.{outcome}
use Rattle.choices.specs.Lists.{books}
use Rattle.choices.specs.Halves.{completed, candidates}
use Rattle.choices.specs.Walks.{choices, plan_of, passes}
use Rattle.choices.specs.Laws.Outcomes.{found_exactly}
use Rattle.choices.proofs.Laws.Halves.{Between, books_of, plan_books, books_between, books_elsewhere, empty_between, completed_book, candidate_at, found_among}
use Rattle.search.specs.Finds.{nothing, Laid, Cleared, Leaves, Finds}
use Rattle.search.specs.Laws.Edges.{blank_low, filled_blank}
use Rattle.finder.specs.Finding.{most_searched, few_check, empty_check, half_check, counted_find_check, store_cleared, store_left, Searched}
use Rattle.finder.specs.Laws.Plan.{book_low}

-- ---- what the check tells

-- N is at most 8, the check of the list passes, and every number of rf, sc and mo is 0
pub record Halved (list : List Action) (c : ℕ) (places : List ℕ) (e n t p : ℕ) (store : List ℕ) : Type 0 where
  pub few : n ≤ most_searched
  pub counted : counted_check list c places e n t p store ≡ Passed
  pub empty : (m : ℕ) → area * 4 ≤ m → m < area * 7 → get_or store m 0 ≡ 0

few_actions : (e n store : ℕ) → few_check e n store ≡ Passed → n ≤ most_searched
unfolding few_check
few_actions e n store passed =
    let a = unless (ltb store store_length) _ _ _ passed in
    let b = only_if (edition_ok newest_edition e) _ _ _ a.1 in
    ltb-false most_searched n (unless (ltb most_searched n) _ _ _ b.1).0

number_empty : (store : List ℕ) → half_check store ≡ Passed → (m : ℕ) → area * 4 ≤ m → m < area * 7 → get_or store m 0 ≡ 0
unfolding half_check empty_check
number_empty store passed m lo hi =
    let i = m - area * 4 in
    let q : area * 4 + i ≡ m = omega arith in
    rw q at (eqb-true (get_or store (area * 4 + i) 0) 0 (only_if (eqb (get_or store (area * 4 + i) 0) 0) _ _ _ (each_pass (empty_check store) 0 (area * 3) passed i (omega arith) (omega arith))).0)

pub find_halved : (list : List Action) (c : ℕ) (places : List ℕ) (e n t p : ℕ) (store : List ℕ) → counted_find_check list c places e n t p store ≡ Passed → Halved list c places e n t p store
unfolding counted_find_check
find_halved list c places e n t p store passed =
    let a = both_pass (few_check e n (length store)) _ passed in
    let b = both_pass (counted_check list c places e n t p store) _ a.1 in
    record { few = few_actions e n (length store) a.0; counted = b.0; empty = number_empty store b.1 }

-- ---- a sheet of other actions that are the same below n

sheet_same : (n : ℕ) (acts others : List Action) (places s : List ℕ) → ((a : ℕ) → a < n → get_or acts a no_action ≡ get_or others a no_action) → Sheet n acts places s → Sheet n others places s
sheet_same n acts others places s h sheet = record { notes = λ a l. rw (h a l) at (sheet.notes a l); small = λ a l. rw (h a l) at (sheet.small a l) }

-- relations 0 to 6 of a filled book are its own
filled_low : (n : ℕ) (σ : Book) (j : ℕ) → j < 7 → filled n σ j ≡ σ j
filled_low n σ j l = sym (blank_low (filled n σ) j l) ∙ ap (λ (ρ : Book). ρ j) (filled_blank n σ) ∙ blank_low σ j l

-- ---- a store whose relations 7 to 17 were cleared

abbrev front : List ℕ → List ℕ
front store = take store_length store

module _ (store : List ℕ) (words : Words store) (room : store_length ≤ length store) (u : List ℕ) (wu : Words u) (long : length u ≡ store_length) (cleared : Cleared (held (front store)) (held u)) where
  abbrev zeros : List ℕ
  zeros = listed (store_length - given_length) (λ _. 0)

  given_length_lem : length (take given_length store) ≡ given_length
  given_length_lem = length-take-le given_length store (omega arith)

  -- a number of relations 0 to 6
  kept_number : (i : ℕ) → i < given_length → get_or u i 0 ≡ get_or (take given_length store ++ zeros) i 0
  kept_number i l =
      let front_length : length (front store) ≡ store_length = length-take-le store_length store room in
      let low : i / area < 7 = omega arith in
      let kept : held u (i / area) ≡ held (front store) (i / area) = cleared (i / area) ∙ rw (lt-leb 7 (i / area) low) in
      held_number u wu i (omega arith)
      ∙ ap (λ (r : Rel). digit (r (i % area / wide)) (i % area % wide)) kept
      ∙ sym (held_number (front store) (front_words store (front store) (rw (take-append-drop store_length store) words)) i (omega arith))
      ∙ get_or-take store_length store i 0 (omega arith)
      ∙ sym (get_or-take given_length store i 0 l)
      ∙ sym (get_or-append (take given_length store) zeros 0 i (omega (arith, given_length_lem)))

  -- a number of relations 7 to 17
  zero_number : (i : ℕ) → given_length ≤ i → i < store_length → get_or (take given_length store ++ zeros) i 0 ≡ 0
  zero_number i l m =
      let there : i ≡ length (take given_length store) + (i - given_length) = omega (arith, given_length_lem) in
      ap (λ (k : ℕ). get_or (take given_length store ++ zeros) k 0) there
      ∙ get_or-append-add (take given_length store) zeros (i - given_length) 0
      ∙ listed_at (λ _. 0) (store_length - given_length) (i - given_length) 0 (omega arith)

  cleared_number : (i : ℕ) → given_length ≤ i → i < store_length → get_or u i 0 ≡ get_or (take given_length store ++ zeros) i 0
  cleared_number i l m =
      let high : 7 ≤ i / area = omega arith in
      let inside : i / area < 18 = omega arith in
      let gone : held u (i / area) ≡ never = cleared (i / area) ∙ rw (le-leb 7 (i / area) high, lt-ltb (i / area) 18 inside) in
      held_number u wu i (omega arith)
      ∙ ap (λ (r : Rel). digit (r (i % area / wide)) (i % area % wide)) gone
      ∙ sym (digit_is none (i % area % wide) 0 (pow_pos width) (λ b l. bit_zero b))
      ∙ sym (zero_number i l m)

  store_cleared_lem : u ++ drop store_length store ≡ store_cleared store
  store_cleared_lem =
      ap (λ (l : List ℕ). l ++ drop store_length store)
      (ext_get_or 0 u (take given_length store ++ zeros)
      (omega (arith, long, length-append (take given_length store) zeros, given_length_lem, listed_length {A = ℕ} (λ _. 0) (store_length - given_length)))
      (λ i l. ⊎_elim (kept_number i) (λ (h : given_length ≤ i). cleared_number i h (omega arith)) (lt_or_le i given_length)))
      ∙ append_assoc (take given_length store) zeros (drop store_length store)

-- ---- a list that passed the check

module _ (g : Gathered) (places : List ℕ) (e n t p : ℕ) (store : List ℕ) (halved : Halved g.list g.count places e n t p store) (words : Words store) where
  room : store_length ≤ length store
  room = (counted_sized g.list g.count places e n t p store halved.counted).store_room

  -- rf, sc and mo are empty
  empty_row : (k : ℕ) → 4 ≤ k → k < 7 → (a b : ℕ) → rel (rows_in store n k) a b ≡ false
  empty_row k lo hi a b =
      ap (λ (v : ℕ). bit v b)
      (⊎_elim
      (λ (l : a < n).
      let few = halved.few in
      listed_at (row_in store k) n a 0 l ∙ rw (halved.empty (area * k + wide * a + 1) (omega arith) (omega arith), halved.empty (area * k + wide * a) (omega arith) (omega arith)))
      (λ (l : n ≤ a). get_or-eq_default (rows_in store n k) 0 (rw (listed_length (row_in store k) n) l))
      (lt_or_le a n))
      ∙ bit_zero b

  module _ (acts : List Action) where
    abbrev X : Candidate
    X = list_candidate acts places e n t p store

    between : Between X.n (book_of X)
    unfolding list_candidate
    between = empty_between X (empty_row 4 (lit≤ tt) (lit< tt)) (empty_row 5 (lit≤ tt) (lit< tt)) (empty_row 6 (lit≤ tt) (lit< tt))

    -- the book that is searched from
    start : book_from n acts places (held (front store)) ≡ book_of X
    unfolding list_candidate
    start = book_given n acts places (held (front store)) (λ k. rel (get_or (given X) k [])) (front_held g.list g.count places e n t p store halved.counted words)

    -- the list that is searched
    searched_books : books (choices n p (plan_of X) (n + p + 1)) (book_from n acts places (held (front store))) ≡ books_of X
    unfolding list_candidate
    searched_books = ap (books (choices n p (plan_of X) (n + p + 1))) start ∙ plan_books X (book_of X)

    module _ (u : List ℕ) (wu : Words u) (long : length u ≡ store_length) where
      -- book i was found: the store has what it completes
      module _ (i : ℕ) (inside : i < length (books_of X)) (laid : Laid n (get_or (books_of X) i nothing) (held (front store)) (held u)) where
        abbrev σ : Book
        σ = get_or (books_of X) i nothing

        found_parts : (j : ℕ) → j < all_relations → held u j ≡ book (completed X σ) j
        unfolding list_candidate
        found_parts j m =
            let elsewhere = books_elsewhere X i nothing inside in
            let whole : filled n σ j ≡ book (completed X σ) j = ap (λ (ρ : Book). filled n ρ j) (sym (completed_book X σ (books_between X between i nothing inside) elsewhere)) in
            laid j ∙ ⊎_elim
            (λ (l : j < 4).
            let low : j < 7 = omega arith in
            let own : held (front store) j ≡ book_from n acts places (held (front store)) j = sym (book_low n acts places (held (front store)) j m ∙ rw (lt-ltb j 7 low)) in
            rw (lt-leb 4 j l) (own ∙ ap (λ (ρ : Book). ρ j) start ∙ sym (elsewhere j (inl l)) ∙ sym (filled_low n σ j low) ∙ whole))
            (λ (l : 4 ≤ j). rw (le-leb 4 j l, lt-ltb j 18 m) whole)
            (lt_or_le j 4)

        store_found : u ≡ store_of (get_or (candidates X) i X)
        store_found = store_is (completed X σ) u wu long found_parts ∙ ap store_of (sym (candidate_at X i nothing inside))

      store_left_lem : (b : ℕ) (r : Outcome) → r ≡ outcome (passes e n) (books_of X) b → Leaves n (books_of X) (held (front store)) (held u) r → u ++ drop store_length store ≡ store_left r X store
      store_left_lem b (Found k) answer laid =
          let first = ((found_exactly (passes e n) (books_of X) nothing b k).0 (sym answer)).0 in
          ap (λ (l : List ℕ). l ++ drop store_length store) (store_found (k - 1) (omega (arith, first.counted, first.inside)) laid)
      store_left_lem b (None k) answer cleared = store_cleared_lem store words room u wu long cleared
      store_left_lem b (Undecided k) answer cleared = store_cleared_lem store words room u wu long cleared

  -- what was searched on the store's own numbers, by a sheet of what was gathered
  pub list_searched : (sheet u : List ℕ) (b : ℕ) (r : Outcome) → Words (put_mid 0 (store_length - 0) store u) → length u ≡ store_length → Sheet n g.list places sheet
      → ((X : Candidate) → X.n ≡ n → X.p ≡ p → Sheet n X.acts X.places sheet
      → Finds e n (books (choices n p (plan_of X) (n + p + 1)) (book_from n X.acts X.places (held (front store)))) b (held (front store)) (held u) r)
      → (acts : List Action) → Stands acts g → Searched (list_candidate acts places e n t p store) b store (put_mid 0 (store_length - 0) store u) r
  unfolding list_candidate
  list_searched sheet u b r w long noted search acts stands =
      let X = list_candidate acts places e n t p store in
      let z = counted_sized g.list g.count places e n t p store halved.counted in
      let finds : Finds e n (books_of X) b (held (front store)) (held u) r = rw (searched_books acts) at (search X refl refl (sheet_same n g.list acts places sheet (same_acts acts g stands places e n t p store z.actions z.few_actions) noted)) in
      record {
        answer = finds.answer ∙ sym (found_among X (between acts) b);
        store = store_left_lem acts u (front_words store u w) long b r finds.answer finds.left;
      }
