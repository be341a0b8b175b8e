-- The candidates of a drawing: the plan's choices have the same books; what every book of the list keeps; the candidate that a book completes, and how it is judged.
use Prim.Native.Nat.{ℕ, zero, suc, ◌+◌, ◌-◌, ◌<◌, ◌≤◌}
use Rattle.std.specs.Prelude.{Bool, true, false, ◌&&◌, cond, ◌⊎◌, ◌≡◌, refl, eqb, ltb, length, get_or}
use mathlib.Core.List.{List, [], ◌∷◌, ◌++◌, map, append_assoc, append-nil}
use Rattle.std.proofs.Common.{inl, inr, ⊎_elim, ap₂, ◌∙◌, zero-add, add-zero, add-suc, le_refl, le_of_suc-le-suc, not-suc-le-zero, lit<, lit≤}
use Rattle.std.proofs.Math.Path.{sym, ap, fun_ext}
use native.Mathlib.Omega.{arith}
use Rattle.std.proofs.Math.ListN.{length-map, get_or-map, get_or-eq_default}
use borrow.Author.Tests.{lt-ltb, le-ltb, ltb-true, eqb-true, ne_eqb}
use Rattle.rows.specs.Sets.{Set, Rel, any, none, when, single, without, before, count}
use Rattle.rows.specs.Numbers.{bit, number, joined, rel, rows_of, size}
use Rattle.rows.proofs.Laws.Bits.{bit_zero, number_bits}
use Rattle.rows.specs.Laws.Lists.{listed_length, listed_at, get_d_any, joined_one}
use Rattle.rows.proofs.Laws.Quantifiers.{any_none}
use Rattle.rows.specs.Laws.Truth.{test, and_1, and_2, and_both, or_cases, not_both, is_false, same, lt_or_le}
use Rattle.model.specs.Candidates.{Candidate, action_in, given, reads, rows_ok, well_formed}
use Rattle.model.specs.Judge.{is_passed, verdict, judged_of}
use Rattle.model.specs.Limits.{given_relations}
use Rattle.model.specs.Model.{Book, filled}
use Rattle.model.specs.Words.{book_from, book_of}
use Rattle.model.specs.Laws.Formed.{Parts, parts, parts_formed, rows_formed}
use Rattle.choices.specs.declared.Outcome.TheVariants.{Found}
use Rattle.choices.specs.Outcomes.{outcome}
use Rattle.choices.specs.Lists.{Option, each_of, over, orders, adds, chained, sources, arrangements, books}
use Rattle.choices.specs.Halves.{passed, writes_for, writes_at, sc_actions, atomic_place, read_choices, place_choices, sc_choice, choices_of, completed, candidates}
use Rattle.choices.specs.Walks.{choice, choices, plan_of, passes}
use Rattle.choices.proofs.Laws.Lists.{books_cons, books_append, books_idle, no_sources, no_order, one_candidate}
use Rattle.choices.specs.Laws.Outcomes.{found_exactly, outcome_map, outcome_same}

-- ---- the choices of a plan, by number

-- lists one after another, in two runs
joined_split : {A : Type 0} (m n : ℕ) (f : ℕ → List A) → joined (m + n) f ≡ joined m f ++ joined n (λ i. f (m + i))
unfolding joined
joined_split m zero f = ap (λ (k : ℕ). joined k f) (add-zero m) ∙ sym (append-nil (joined m f))
joined_split m (suc n) f =
    ap (λ (k : ℕ). joined k f) (add-suc m n)
    ∙ ap (λ (l : List _). l ++ f (m + n)) (joined_split m n f)
    ∙ append_assoc (joined m f) (joined n (λ i. f (m + i))) (f (m + n))

module _ (n p : ℕ) (π : Rel) where
  -- choice i by itself
  abbrev alone : ℕ → List (List Option)
  alone i = choice n p π i ∷ []

  -- the first m, then the last o
  choices_first : (m o : ℕ) → m + o ≡ n + p + 1 → joined m alone ++ choices n p π o ≡ choices n p π (n + p + 1)
  unfolding joined choices
  choices_first zero o e = ap (choices n p π) (sym (zero-add o) ∙ e)
  choices_first (suc m) o e =
      let here : m ≡ n + p - o = omega arith in
      let next : alone m ++ choices n p π o ≡ choices n p π (suc o) = ap (λ (i : ℕ). alone i ++ choices n p π o) here in
      append_assoc (joined m alone) (alone m) (choices n p π o)
      ∙ ap (λ (l : List (List Option)). joined m alone ++ l) next
      ∙ choices_first m (suc o) (omega arith)

  -- those of the n actions, of the p places, and the last
  choices_parts : choices n p π (n + p + 1) ≡ joined n alone ++ (joined p (λ q. alone (n + q)) ++ alone (n + p))
  unfolding choices
  choices_parts =
      sym (choices_first (n + p + 1) 0 (add-zero (n + p + 1)))
      ∙ append-nil (joined (n + p + 1) alone)
      ∙ joined_one (n + p) alone
      ∙ ap (λ (l : List (List Option)). l ++ alone (n + p)) (joined_split n p alone)
      ∙ append_assoc (joined n alone) (joined p (λ q. alone (n + q))) (alone (n + p))

-- ---- choices with the same books

books_both : (cs ds es fs : List (List Option)) → books cs ≡ books ds → books es ≡ books fs → books (cs ++ es) ≡ books (ds ++ fs)
books_both cs ds es fs front rear =
    fun_ext λ σ. books_append cs es σ ∙ ap₂ (λ (f g : Book → List Book). each_of g (f σ)) front rear ∙ sym (books_append ds fs σ)

books_joined : (m : ℕ) (f g : ℕ → List (List Option)) → ((i : ℕ) → i < m → books (f i) ≡ books (g i)) → books (joined m f) ≡ books (joined m g)
unfolding joined
books_joined zero f g h = refl
books_joined (suc m) f g h = books_both (joined m f) (joined m g) (f m) (g m) (books_joined m f g (λ i l. h i (omega arith))) (h m (omega arith))

-- a choice of an empty row may stand in the list or not
books_when : (f : Set → List Option) → f none ≡ (λ σ. σ) ∷ [] → (t : Bool) (s : Set) → books (f (when t s) ∷ []) ≡ books (cond t (f s ∷ []) [])
books_when f idle true s = refl
books_when f idle false s = rw idle (fun_ext λ σ. books_idle [] σ)

nothing : any size none ≡ false
nothing = any_none size none (λ c l. refl)

-- ---- the plan of a drawing

module _ (X : Candidate) where
  -- its choice i
  abbrev planned : ℕ → List (List Option)
  planned = alone X.n X.p (plan_of X)

  books_read : (b : ℕ) → b < X.n → books (planned b) ≡ books (cond (reads (action_in X b)) (sources b (writes_for X b) ∷ []) [])
  unfolding plan_of
  books_read b l = rw (lt-ltb b X.n l) (books_when (sources b) (no_sources b none nothing) (reads (action_in X b)) (writes_for X b))

  books_place : (q : ℕ) → q < X.p → books (planned (X.n + q)) ≡ books (cond (atomic_place X q) (arrangements 6 (writes_at X q) ∷ []) [])
  unfolding plan_of
  books_place q l =
      let past : X.n ≤ X.n + q = omega arith in
      let inside : X.n + q < X.n + X.p = omega arith in
      let here : X.n + q - X.n ≡ q = omega arith in
      rw (le-ltb (X.n + q) X.n past, lt-ltb (X.n + q) (X.n + X.p) inside, here)
      (books_when (arrangements 6) (no_order 6 none nothing) (atomic_place X q) (writes_at X q))

  books_sc : books (planned (X.n + X.p)) ≡ books (sc_choice X)
  unfolding plan_of
  books_sc =
      let past : X.n ≤ X.n + X.p = omega arith in
      rw (le-ltb (X.n + X.p) X.n past, le-ltb (X.n + X.p) (X.n + X.p) (le_refl (X.n + X.p)))

  -- the plan's choices have the books of the list
  pub plan_books : (σ : Book) → books (choices X.n X.p (plan_of X) (X.n + X.p + 1)) σ ≡ books (choices_of X) σ
  unfolding choices_of
  plan_books σ =
      ap (λ (cs : List (List Option)). books cs σ) (choices_parts X.n X.p (plan_of X))
      ∙ ap (λ (f : Book → List Book). f σ)
      (books_both _ _ _ _
      (books_joined X.n planned _ books_read)
      (books_both _ _ _ _ (books_joined X.p (λ q. planned (X.n + q)) _ books_place) books_sc))

-- ---- what holds of each in a list

abbrev Each : {A : Type 0} → (A → Type 0) → List A → Type 0
Each P [] = Unit
Each P (x ∷ xs) = P x × Each P xs

each_at : {A : Type 0} (P : A → Type 0) (xs : List A) → Each P xs → (i : ℕ) (d : A) → i < length xs → P (get_or xs i d)
each_at P [] e i d l = absurd (not-suc-le-zero l)
each_at P (x ∷ xs) e zero d l = e.0
each_at P (x ∷ xs) e (suc i) d l = each_at P xs e.1 i d (le_of_suc-le-suc l)

each_append : {A : Type 0} (P : A → Type 0) (xs ys : List A) → Each P xs → Each P ys → Each P (xs ++ ys)
each_append P [] ys e f = f
each_append P (x ∷ xs) ys e f = (e.0, each_append P xs ys e.1 f)

each_map : {A B : Type 0} (Q : A → Type 0) (P : B → Type 0) (g : A → B) (xs : List A) → ((x : A) → Q x → P (g x)) → Each Q xs → Each P (map g xs)
each_map Q P g [] h e = tt
each_map Q P g (x ∷ xs) h e = (h x e.0, each_map Q P g xs h e.1)

each_of_lem : {A B : Type 0} (Q : A → Type 0) (P : B → Type 0) (g : A → List B) (xs : List A) → ((x : A) → Q x → Each P (g x)) → Each Q xs → Each P (each_of g xs)
unfolding each_of
each_of_lem Q P g [] h e = tt
each_of_lem Q P g (x ∷ xs) h e = each_append P (g x) (each_of g xs) (h x e.0) (each_of_lem Q P g xs h e.1)

each_over : {A : Type 0} (P : A → Type 0) (n : ℕ) (s : Set) (f : ℕ → List A) → ((a : ℕ) → a < n → s a ≡ true → Each P (f a)) → Each P (over n s f)
unfolding joined
each_over P zero s f h = tt
each_over P (suc n) s f h = each_append P (over n s f) (cond (s n) (f n) []) (each_over P n s f (λ a l. h a (omega arith))) (last (s n) refl)
  where
    last : (t : Bool) → s n ≡ t → Each P (cond t (f n) [])
    last true e = h n (omega arith) e
    last false e = tt

-- ---- a fact of books that every option keeps

abbrev Keeps : (Book → Type 0) → Option → Type 0
Keeps P f = (σ : Book) → P σ → P (f σ)

-- s has only numbers below n
abbrev Below : ℕ → Set → Type 0
Below n s = (b : ℕ) → s b ≡ true → b < n

-- the edges of rf, sc and mo between numbers below n keep it
abbrev EdgesKeep : ℕ → (Book → Type 0) → Type 0
EdgesKeep n P = (k a : ℕ) (s : Set) → 4 ≤ k → k < 7 → a < n → Below n s → Keeps P (adds k a s)

-- so each book of choices that keep it has it
books_keep : (P : Book → Type 0) (cs : List (List Option)) → Each (Each (Keeps P)) cs → (σ : Book) → P σ → Each P (books cs σ)
books_keep P [] e σ h = rw (one_candidate σ) (h, tt)
books_keep P (c ∷ cs) e σ h = rw (books_cons c cs σ) (each_of_lem (Keeps P) P (λ f. books cs (f σ)) c (λ f keeps. books_keep P cs e.1 (f σ) (keeps σ h)) e.0)

module _ (n : ℕ) (P : Book → Type 0) (edges : EdgesKeep n P) where
  sources_keep : (b : ℕ) (s : Set) → b < n → Below n s → Each (Keeps P) (sources b s)
  sources_keep b s l low = (
    λ σ h. h,
    each_over (Keeps P) size s (λ w. adds 4 w (single b) ∷ [])
        (λ w lw e. (edges 4 w (single b) (lit≤ tt) (lit< tt) (low w e) (λ c q. rw (eqb-true c b q) l), tt)),
  )

  orders_keep : (k : ℕ) → 4 ≤ k → k < 7 → (m : ℕ) (s : Set) → Below n s → Each (λ l. Keeps P (chained k s l)) (orders m s)
  unfolding orders chained
  orders_keep k lo hi zero s low = (λ σ h. h, tt)
  orders_keep k lo hi (suc m) s low =
      each_over (λ l. Keeps P (chained k s l)) size s (λ w. map (λ l. w ∷ l) (orders m (without s w)))
      (λ w lw e.
      let rest : Below n (without s w) = λ b q. low b (and_1 (s b) _ q) in
      each_map (λ l. Keeps P (chained k (without s w) l)) (λ l. Keeps P (chained k s l)) (λ l. w ∷ l) (orders m (without s w))
      (λ l keeps σ h. keeps (adds k w (without s w) σ) (edges k w (without s w) lo hi (low w e) rest σ h))
      (orders_keep k lo hi m (without s w) rest))

  arrangements_keep : (k : ℕ) (s : Set) → 4 ≤ k → k < 7 → Below n s → Each (Keeps P) (arrangements k s)
  arrangements_keep k s lo hi low =
      each_map (λ l. Keeps P (chained k s l)) (Keeps P) (chained k s) (orders (count size s) s) (λ l keeps. keeps) (orders_keep k lo hi (count size s) s low)

-- ---- the books of the list

-- the relation joins only numbers below n
abbrev pub Inside : ℕ → Rel → Type 0
Inside n r = (a b : ℕ) → r a b ≡ true → (a < n) × (b < n)

-- relations 4, 5 and 6 of the book do
pub record Between (n : ℕ) (σ : Book) : Type 0 where
  pub rf : Inside n (σ 4)
  pub sc : Inside n (σ 5)
  pub mo : Inside n (σ 6)

-- the other relations of σ are those of ρ
abbrev pub Elsewhere : Book → Book → Type 0
Elsewhere ρ σ = (k : ℕ) → (k < 4) ⊎ (7 ≤ k) → σ k ≡ ρ k

inside_kept : (n k a : ℕ) (s : Set) (σ : Book) (j : ℕ) → a < n → Below n s → Inside n (σ j) → Inside n (adds k a s σ j)
inside_kept n k a s σ j la low h x y edge = ⊎_elim
    (λ (e : eqb j k && eqb x a ≡ true). ⊎_elim
    (λ (old : σ j x y ≡ true). h x y old)
    (λ (new : s y ≡ true). (rw (eqb-true x a (and_2 (eqb j k) (eqb x a) e)) la, low y new))
    (or_cases (σ j x y) (s y) (rw e at edge)))
    (λ (e : eqb j k && eqb x a ≡ false). h x y (rw e at edge))
    (test (eqb j k && eqb x a))

between_kept : (n : ℕ) → EdgesKeep n (Between n)
between_kept n k a s lo hi la low σ h =
    record {
      rf = inside_kept n k a s σ 4 la low h.rf;
      sc = inside_kept n k a s σ 5 la low h.sc;
      mo = inside_kept n k a s σ 6 la low h.mo;
    }

elsewhere_kept : (n : ℕ) (ρ : Book) → EdgesKeep n (Elsewhere ρ)
elsewhere_kept n ρ k a s lo hi la low σ h j out =
    let other : j ≡ k → ⊥ = λ e. ⊎_elim (λ (l : j < 4). omega arith) (λ (l : 7 ≤ j). omega arith) out in
    (fun_ext λ x. rw (ne_eqb j k other)) ∙ h j out

-- the books of a drawing's list
abbrev pub books_of : Candidate → List Book
books_of X = books (choices_of X) (book_of X)

module _ (X : Candidate) (P : Book → Type 0) (edges : EdgesKeep X.n P) where
  choices_keep : Each (Each (Keeps P)) (choices_of X)
  unfolding choices_of
  choices_keep =
      let Q = Each (Keeps P) in
      each_append Q (read_choices X) (place_choices X ++ sc_choice X)
      (each_over Q X.n (λ b. reads (action_in X b)) (λ b. sources b (writes_for X b) ∷ [])
      (λ b l e. (sources_keep X.n P edges b (writes_for X b) l (λ w e. search (ltb-true, and_2)), tt)))
      (each_append Q (place_choices X) (sc_choice X)
      (each_over Q X.p (atomic_place X) (λ q. arrangements 6 (writes_at X q) ∷ [])
      (λ q l e. (arrangements_keep X.n P edges 6 (writes_at X q) (lit≤ tt) (lit< tt) (λ w e. search (ltb-true, and_2)), tt)))
      (arrangements_keep X.n P edges 5 (sc_actions X) (lit≤ tt) (lit< tt) (λ w e. search (ltb-true, and_2)), tt))

  -- what the drawing's own book has
  book_keeps : P (book_of X) → (i : ℕ) (d : Book) → i < length (books_of X) → P (get_or (books_of X) i d)
  book_keeps h = each_at P (books_of X) (books_keep P (choices_of X) choices_keep (book_of X) h)

module _ (X : Candidate) where
  pub books_between : Between X.n (book_of X) → (i : ℕ) (d : Book) → i < length (books_of X) → Between X.n (get_or (books_of X) i d)
  books_between = book_keeps X (Between X.n) (between_kept X.n)

  pub books_elsewhere : (i : ℕ) (d : Book) → i < length (books_of X) → Elsewhere (book_of X) (get_or (books_of X) i d)
  books_elsewhere = book_keeps X (Elsewhere (book_of X)) (elsewhere_kept X.n (book_of X)) (λ k out. refl)

  -- a drawing without rf, sc and mo
  pub empty_between : ((a b : ℕ) → rel X.rf a b ≡ false) → ((a b : ℕ) → rel X.sc a b ≡ false) → ((a b : ℕ) → rel X.mo a b ≡ false) → Between X.n (book_of X)
  unfolding book_from
  empty_between rf sc mo = record { rf = λ a b e. not_both e (rf a b); sc = λ a b e. not_both e (sc a b); mo = λ a b e. not_both e (mo a b) }

-- ---- the candidate that a book completes

-- the rows of a relation between numbers below n hold it
rows_inside : (n : ℕ) (r : Rel) → Inside n r → rel (rows_of n r) ≡ r
rows_inside n r h = fun_ext λ a. ⊎_elim
    (λ (l : a < n).
    ap bit (listed_at (λ a. number n (r a)) n a 0 l) ∙ number_bits n (r a)
    ∙ (fun_ext λ b. same (before (r a) n b) (r a b) (and_1 (r a b) (ltb b n)) (λ e. and_both e (lt-ltb b n (h a b e).1))))
    (λ (l : n ≤ a).
    ap bit (get_or-eq_default (rows_of n r) 0 (rw (listed_length (λ a. number n (r a)) n) l))
    ∙ (fun_ext λ b. bit_zero b ∙ sym (is_false (r a b) (λ e. omega (arith, (h a b e).0)))))
    (lt_or_le a n)

module _ (X : Candidate) (σ : Book) (between : Between X.n σ) (elsewhere : Elsewhere (book_of X) σ) where
  completed_at : (k : ℕ) → book_of (completed X σ) k ≡ σ k
  unfolding book_from
  completed_at zero = sym (elsewhere 0 (inl (lit< tt)))
  completed_at (suc zero) = sym (elsewhere 1 (inl (lit< tt)))
  completed_at (suc (suc zero)) = sym (elsewhere 2 (inl (lit< tt)))
  completed_at (suc (suc (suc zero))) = sym (elsewhere 3 (inl (lit< tt)))
  completed_at (suc (suc (suc (suc zero)))) = rows_inside X.n (σ 4) between.rf
  completed_at (suc (suc (suc (suc (suc zero))))) = rows_inside X.n (σ 5) between.sc
  completed_at (suc (suc (suc (suc (suc (suc zero)))))) = rows_inside X.n (σ 6) between.mo
  completed_at (suc (suc (suc (suc (suc (suc (suc k))))))) = sym (elsewhere _ (inr (omega arith)))

  -- its book is that book
  pub completed_book : book_of (completed X σ) ≡ σ
  completed_book = fun_ext completed_at

  -- it is passed just where that book is
  passed_there : passed (completed X σ) ≡ passes X.edition X.n σ
  unfolding passed judged_of passes
  passed_there = ap (λ (ρ : Book). is_passed (verdict X.edition X.n (filled X.n ρ))) completed_book

module _ (X : Candidate) (σ : Book) where
  completed_rows : Parts X → (k : ℕ) → k < given_relations → rows_ok X.n (get_or (given (completed X σ)) k []) ≡ true
  completed_rows f zero l = f.rows 0 l
  completed_rows f (suc zero) l = f.rows 1 l
  completed_rows f (suc (suc zero)) l = f.rows 2 l
  completed_rows f (suc (suc (suc zero))) l = f.rows 3 l
  completed_rows f (suc (suc (suc (suc zero)))) l = rows_formed X.n (σ 4)
  completed_rows f (suc (suc (suc (suc (suc zero))))) l = rows_formed X.n (σ 5)
  completed_rows f (suc (suc (suc (suc (suc (suc zero)))))) l = rows_formed X.n (σ 6)
  completed_rows f (suc (suc (suc (suc (suc (suc (suc k))))))) l = absurd (omega arith)

  -- a well-formed drawing is completed to a well-formed candidate
  pub completed_formed : well_formed X ≡ true → well_formed (completed X σ) ≡ true
  completed_formed w =
      let f = parts X w in
      parts_formed (completed X σ)
      (record {
        edition = f.edition;
        bytes = f.bytes;
        byte = f.byte;
        actions = f.actions;
        action = f.action;
        rows = completed_rows f;
        others = f.others;
      })

-- ---- the list of candidates

module _ (X : Candidate) where
  candidates_length : length (candidates X) ≡ length (books_of X)
  unfolding candidates
  candidates_length = length-map (books_of X) (completed X)

  pub candidate_at : (i : ℕ) (d : Book) → i < length (books_of X) → get_or (candidates X) i X ≡ completed X (get_or (books_of X) i d)
  unfolding candidates
  candidate_at i d l = get_d_any (candidates X) i X (completed X d) (rw candidates_length l) ∙ get_or-map (completed X) (books_of X) i d

  -- candidate k, if it is found, is the drawing completed by book k
  pub found_completed : (b k : ℕ) → outcome passed (candidates X) b ≡ Found k → get_or (candidates X) (k - 1) X ≡ completed X (get_or (books_of X) (k - 1) (book_of X))
  found_completed b k e =
      let first = ((found_exactly passed (candidates X) X b k).0 e).0 in
      candidate_at (k - 1) (book_of X) (omega (arith, first.counted, first.inside, candidates_length))

  -- the search of the candidates is the search of their books
  pub found_among : Between X.n (book_of X) → (b : ℕ) → outcome passed (candidates X) b ≡ outcome (passes X.edition X.n) (books_of X) b
  unfolding candidates
  found_among between b =
      let d = book_of X in
      outcome_map (completed X) passed (books_of X) b
      ∙ outcome_same (λ σ. passed (completed X σ)) (passes X.edition X.n) (books_of X) d b
      (λ i l. passed_there X (get_or (books_of X) i d) (books_between X between i d l) (books_elsewhere X i d l))
