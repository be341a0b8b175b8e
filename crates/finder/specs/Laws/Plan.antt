-- The plan that is laid from the book on the desk is the drawing's; and the choices read no more of a plan than its first n + p + 1 rows.
use Rattle.std.specs.Prelude.{ℕ, zero, suc, ◌+◌, ◌-◌, ◌<◌, ◌≤◌, Bool, true, false, not, ◌&&◌, List, [], ◌∷◌, ◌≡◌, eqb, get_or}
use Rattle.std.proofs.Math.Bool.{cond, and-true, and-false}
use Rattle.std.proofs.Common.{true≢false, ap, ap₂, ◌∙◌, le_refl, arith}
use Rattle.std.proofs.Math.Logic.{⊎_elim}
use Rattle.std.proofs.Math.Path.{refl, sym, fun_ext}
use Rattle.std.proofs.Math.Dec.{leb, ltb}
use borrow.Author.Tests.{lt-ltb, le-ltb, ltb-true, leb-true, eq-eqb, ne_eqb}
use Rattle.rows.specs.Sets.{Set, Rel, never, both, when}
use Rattle.rows.specs.Numbers.{listed}
use Rattle.rows.specs.Laws.Lists.{listed_same}
use Rattle.rows.specs.Laws.Truth.{Conj, test, and_1, and_2, lt_or_le, eq_or_ne, eqb_sym}
use Rattle.model.specs.declared.Action.{Action}
use Rattle.model.specs.declared.ActionKind.{ActionKind}
use Rattle.model.specs.declared.ActionKind.TheVariants.{Lock, Unlock, AtomicLoad, AtomicStore, ReadModifyWrite, Load, Store, Fence}
use Rattle.model.specs.Actions.{kind_number}
use Rattle.model.specs.Candidates.{Candidate, action_in, among, reads, writes, is_fence}
use Rattle.model.specs.Model.{Book, read, write, same_place, entered}
use Rattle.model.specs.Words.{word, placed, book_from}
use Rattle.model.specs.Laws.Filled.{unfilled}
use Rattle.model.specs.Laws.Placing.{Placing, placing}
use Rattle.words.specs.Sheet.{at_place}
use Rattle.choices.specs.declared.Outcome.{Outcome}
use Rattle.choices.specs.Lists.{Option, sources, arrangements, books}
use Rattle.choices.specs.Halves.{writes_for}
use Rattle.choices.specs.Walks.{ordering, choice, choices, plan_of}
use Rattle.search.specs.Finds.{blank, Finds}
use Rattle.finder.specs.Finding.{plan_row}

-- ---- the rows of a plan, of one action at a time

placed_sym : (x y : Action) → placed x y ≡ placed y x
placed_sym x y = rw (eqb_sym x.place y.place) (simp Conj)

-- a write is no fence
kind_no_fence : (k : ActionKind) → among (kind_number k) (4 ∷ 5 ∷ 7 ∷ []) ≡ true → among (kind_number k) (8 ∷ []) ≡ false
kind_no_fence Lock e = refl
kind_no_fence Unlock e = refl
kind_no_fence (AtomicLoad m) e = refl
kind_no_fence (AtomicStore m) e = refl
kind_no_fence (ReadModifyWrite m) e = refl
kind_no_fence Load e = refl
kind_no_fence Store e = refl
kind_no_fence (Fence m) e = absurd (true≢false (sym e))

-- a write w below n of the place of the read
read_row : (i r w p l : Bool) → i ≡ true → ((r && i) && ((w && l) && ((i && p) && l))) ≡ (r && ((w && p) && l))
read_row i r w p l here = rw (here, and-true r) (ap (λ (t : Bool). r && t) (simp Conj))

-- what is asked more than once
once : (k l : Bool) → (l && (l && (k && l))) ≡ (k && l)
once k l = simp Conj

-- a write x below n at the atomic place q
place_row : (places : List ℕ) (q : ℕ) (x : Action) (l : Bool)
    → (((not (is_fence x) && eqb q x.place) && l) && ((writes x && l) && (eqb (get_or places x.place 3) 2 && l))) ≡ (eqb (get_or places q 3) 2 && ((writes x && eqb x.place q) && l))
place_row places q x l = ⊎_elim
    (λ (e : q ≡ x.place). rw (e, eq-eqb x.place x.place refl) (go (writes x) (is_fence x) (eqb (get_or places x.place 3) 2) (kind_no_fence x.what)))
    (λ (ne : q ≡ x.place → ⊥). rw (ne_eqb q x.place ne, ne_eqb x.place q (λ e. ne (sym e)), and-false (not (is_fence x)), and-false (writes x)) (sym (and-false (eqb (get_or places q 3) 2))))
    (eq_or_ne q x.place)
  where
    go : (w f k : Bool) → (w ≡ true → f ≡ false) → (((not f && true) && l) && ((w && l) && (k && l))) ≡ (k && ((w && true) && l))
    go true f k apart = rw (apart refl) (once k l)
    go false f k apart = rw (and-false k, and-false ((not f && true) && l))

-- ---- the plan

module _ (X : Candidate) (σ : Book) where
  -- the book that is laid
  abbrev laid : Book
  laid = book_from X.n X.acts X.places σ

  -- the plan from it
  abbrev row : Rel
  row = plan_row X.n X.p laid (at_place X.n X.acts)

  -- of an action
  action_row : (i : ℕ) → i < X.n → row i ≡ plan_of X i
  unfolding plan_row plan_of book_from word
  action_row i l =
      let here = lt-ltb i X.n l in
      let from : row i ≡ when (read X.n laid i) (both (write X.n laid) (same_place X.n laid i)) = rw here in
      let to : plan_of X i ≡ when (reads (action_in X i)) (writes_for X i) = rw here in
      from
      ∙ (fun_ext λ b. read_row (ltb i X.n) (reads (action_in X i)) (writes (action_in X b)) (placed (action_in X i) (action_in X b)) (ltb b X.n) here
      ∙ rw (placed_sym (action_in X i) (action_in X b)))
      ∙ sym to

  -- of a place, and the last
  other_row : (i : ℕ) → X.n ≤ i → row i ≡ plan_of X i
  unfolding plan_row plan_of book_from word
  other_row i l = rw (le-ltb i X.n l) (⊎_elim
      (λ (m : i < X.n + X.p). rw (lt-ltb i (X.n + X.p) m) (fun_ext λ b. place_row X.places (i - X.n) (action_in X b) (ltb b X.n)))
      (λ (m : X.n + X.p ≤ i). rw (le-ltb i (X.n + X.p) m))
      (lt_or_le i (X.n + X.p)))

  plan_row_lem : (i : ℕ) → row i ≡ plan_of X i
  plan_row_lem i = ⊎_elim (action_row i) (other_row i) (lt_or_le i X.n)

-- ---- plans with the same rows

choice_same : (n p i : ℕ) (π π' : Rel) → π i ≡ π' i → choice n p π i ≡ choice n p π' i
choice_same n p i π π' e = ap (λ (s : Set). cond (ltb i n) (sources i s) (arrangements (ordering n p i) s)) e

choices_same : (n p : ℕ) (π π' : Rel) → ((i : ℕ) → i < n + p + 1 → π i ≡ π' i) → (o : ℕ) → o ≤ n + p + 1 → choices n p π o ≡ choices n p π' o
unfolding choices
choices_same n p π π' h zero l = refl
choices_same n p π π' h (suc o) l =
    ap₂ (λ (c : List Option) (cs : List (List Option)). c ∷ cs) (choice_same n p (n + p - o) π π' (h (n + p - o) (omega arith))) (choices_same n p π π' h o (omega arith))

-- ---- the book that was laid on the desk

module _ (n : ℕ) (acts : List Action) (places : List ℕ) (σ : Book) where
  -- relations 0 to 6 are σ's, 7 to 17 empty
  pub book_low : (j : ℕ) → j < 18 → book_from n acts places σ j ≡ cond (ltb j 7) (σ j) never
  unfolding book_from listed
  book_low j l = listed_same 18 (book_from n acts places σ) (λ j. cond (ltb j 7) (σ j) never) refl j l

  blank_laid : (γ : Book) → blank (unfilled (book_from n acts places σ) γ) ≡ book_from n acts places σ
  unfolding blank
  blank_laid γ = fun_ext λ j. ⊎_elim
      (λ (e : leb 7 j && ltb j 18 ≡ true).
      let m : 7 ≤ j = leb-true 7 j (and_1 (leb 7 j) (ltb j 18) e) in
      rw e (sym (book_low j (ltb-true j 18 (and_2 (leb 7 j) (ltb j 18) e)) ∙ rw (le-ltb j 7 m))))
      (λ (e : leb 7 j && ltb j 18 ≡ false). rw e)
      (test (leb 7 j && ltb j 18))

  placing_book : Placing n (book_from n acts places σ)
  unfolding entered
  placing_book =
      let h = placing n acts places σ in
      record {
        place_sym = h.place_sym;
        place_trans = h.place_trans;
        at_mutex_too = h.at_mutex_too;
        at_plain_too = h.at_plain_too;
        at_atomic_too = h.at_atomic_too;
      }

  pub placing_laid : (γ desk : Book) → desk ≡ unfilled (book_from n acts places σ) γ → Placing n (blank desk)
  placing_laid γ desk book = rw (book, blank_laid γ) placing_book

-- what is searched by a plan laid from the desk are the drawing's choices, added to the book that was laid
pub finds_laid : (X : Candidate) (e n p : ℕ) → X.n ≡ n → X.p ≡ p → (σ γ desk : Book) (at π : Rel)
    → desk ≡ unfilled (book_from n X.acts X.places σ) γ → at ≡ at_place n X.acts → ((i : ℕ) → i < n + p + 1 → π i ≡ plan_row n p desk at i) → (b : ℕ) (s s' : Book) (r : Outcome)
    → Finds e n (books (choices n p π (n + p + 1)) (blank desk)) b s s' r → Finds e n (books (choices n p (plan_of X) (n + p + 1)) (book_from n X.acts X.places σ)) b s s' r
unfolding plan_row
finds_laid X e n p actions places σ γ desk at π book there rows b s s' r h =
    let row : (i : ℕ) → plan_row n p desk at i ≡ plan_of X i = λ i. rw (book, there, ← actions, ← places) (plan_row_lem X σ i) in
    let same : choices n p π (n + p + 1) ≡ choices n p (plan_of X) (n + p + 1) = choices_same n p π (plan_of X) (λ i l. rows i l ∙ row i) (n + p + 1) (le_refl (n + p + 1)) in
    rw (same, book, blank_laid n X.acts X.places σ γ) at h
