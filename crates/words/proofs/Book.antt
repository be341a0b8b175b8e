-- From the sheet to the book.
use Prim.Native.Nat.{ℕ, ◌+◌, ◌*◌, ◌-◌, ◌≤◌, ◌<◌}
use mathlib.Core.Bool.{Bool, true, false, not, ◌&&◌, cond, and_assoc}
use mathlib.Core.List.{List, [], ◌∷◌}
use mathlib.Core.Path.{◌≡◌, refl, sym, ap, ◌∙◌, fun_ext}
use mathlib.Core.Logic.{⊎_elim}
use native.Mathlib.Omega.{arith}
use lib.Dec.{eqb, ltb}
use lib.ListN.{get_or, take, drop, get_or-eq_default}
use lib.Seq.{get_or-take, get_or-drop}
use borrow.Author.Tests.{le-ltb, le-leb, eqb-true, ne_eqb, not-true}
use Rattle.rows.specs.Sets.{Set, Rel, any, least, never, when, single, before, image, within}
use Rattle.rows.specs.Numbers.{bit, rel, listed, size}
use Rattle.rows.specs.Laws.Truth.{lt_or_le}
use Rattle.rows.proofs.Laws.Quantifiers.{any_none, any_at, least_is}
use Rattle.rows.specs.Laws.Sets.{before_ext, within_ext}
use Rattle.rows.proofs.Laws.Joins.{any_beside}
use Rattle.rows.specs.Laws.Lists.{listed_same}
use Rattle.model.specs.Actions.{no_action}
use Rattle.model.specs.Candidates.{is_fence}
use Rattle.model.specs.Words.{word_rows, place_rows, thread_rows, value_rows, book_from}
use Rattle.model.specs.Laws.Filled.{unfilled}
use Rattle.model.specs.declared.Action.{Action}
use Rattle.words.specs.Sheet.{note, Sheet, bit_rows, meets, same_written, same_number}

-- ---- a part whose rows are laid one after another, once it was cleared

-- part k has p's rows below a, the other parts are as they were
abbrev pub laid_to : ℕ → Rel → (ℕ → Rel) → ℕ → ℕ → Rel
laid_to k p old a j = cond (eqb j k) (λ x. when (ltb x a) (p x)) (old j)

-- ---- what the sheet gives

-- a part lent as `&sheet[size * k .. size * k + size]`, turned around
pub turned_part : (n : ℕ) (s : List ℕ) (k : ℕ) → n ≤ size → (λ p. before (λ a. rel (take (size * k + size - size * k) (drop (size * k) s)) a p) n) ≡ bit_rows n s k
turned_part n s k h =
    let e : size * k + size - size * k ≡ size = omega arith in
    rw e (fun_ext λ p. before_ext n _ (λ a. bit (note s k a) p) λ a l. ap (λ (v : ℕ). bit v p) (get_or-take size (drop (size * k) s) a 0 (omega arith) ∙ get_or-drop (size * k) s a 0))

-- the bits of each number followed to those that have them
abbrev pub through : List ℕ → ℕ → Rel → Rel
through s k turned a = image size (bit (note s k a)) turned

pub through_meets : (n : ℕ) (s : List ℕ) (k : ℕ) → (λ a. when (ltb a n) (through s k (bit_rows n s k) a)) ≡ within n (meets s k)
through_meets n s k = fun_ext λ a. fun_ext λ b. rw (and_assoc (ltb a n) (meets s k a b) (ltb b n), any_beside size (λ p. bit (note s k a) p && bit (note s k b) p) (ltb b n)) (simp and_assoc)

-- row a of value written = value read
abbrev pub value_row : ℕ → List ℕ → Rel
value_row n s a = before (same_number s a) n

-- of the actions below n those rows are the relation
pub value_rows_lem : (n : ℕ) (s : List ℕ) → (λ a. when (ltb a n) (value_row n s a)) ≡ within n (same_number s)
value_rows_lem n s = fun_ext λ a. fun_ext λ b. sym (and_assoc (ltb a n) (same_number s a b) (ltb b n))

-- two that write one number are read by the same
pub value_first : (s : List ℕ) (a first : ℕ) → first ≡ least a (same_written s a) → first < a → same_number s first ≡ same_number s a
value_first s a first e l =
    let hit : same_written s a first ≡ true = rw e ((least_is a (same_written s a)).hit (rw e at l)) in
    fun_ext λ b. rw (eqb-true (note s 4 a) (note s 4 first) hit)

-- numbers of at most one bit meet where both have it
keyed : (n : ℕ) (s : List ℕ) (k : ℕ) (f : Set) (g : ℕ → ℕ) → ((a : ℕ) → a < n → bit (note s k a) ≡ when (f a) (single (g a))) → ((a : ℕ) → a < n → f a ≡ true → g a < size) → within n (meets s k) ≡ within n (λ a b. f a && f b && eqb (g a) (g b))
keyed n s k f g e low = within_ext n _ _ λ a b l m. rw (e a l, e b m) (go a b (f a) (low a l))
  where
    go : (a b : ℕ) (t : Bool) → (t ≡ true → g a < size) → any size (λ p. (t && eqb p (g a)) && (f b && eqb p (g b))) ≡ (t && f b && eqb (g a) (g b))
    go a b true l = any_at size (g a) (λ p. f b && eqb p (g b)) (l refl)
    go a b false l = any_none size (λ p. false) (λ p l. refl)

module _ (n : ℕ) (acts : List Action) (places s : List ℕ) (h : Sheet n acts places s) where
  abbrev here : ℕ → Action
  here a = get_or acts a no_action

  pub sheet_words : bit_rows n s 0 ≡ word_rows n acts places
  sheet_words = fun_ext λ w. before_ext n _ _ λ a l. ap (λ (t : Set). t w) (h.notes a l).words

  pub sheet_places : within n (meets s 1) ≡ place_rows n acts places
  sheet_places = keyed n s 1 (λ a. not (is_fence (here a))) (λ a. (here a).place) (λ a l. (h.notes a l).place) (λ a l e. let m = (h.small a l).low_place (not-true (is_fence (here a)) e) in omega arith)

  pub sheet_threads : within n (meets s 2) ≡ thread_rows n acts places
  sheet_threads = keyed n s 2 (λ a. true) (λ a. (here a).thread) (λ a l. (h.notes a l).thread) (λ a l e. let m = (h.small a l).low_thread in omega arith)

  pub sheet_values : within n (same_number s) ≡ value_rows n acts places
  sheet_values = within_ext n _ _ λ a b l m. rw ((h.notes a l).written, (h.notes b m).read)

-- ---- the whole book

module _ (n : ℕ) (acts : List Action) (places : List ℕ) (σ γ : ℕ → Rel) where
  abbrev pub laid_on : ℕ → Rel
  laid_on j =
      cond (eqb j 21) (value_rows n acts places) (
      cond (eqb j 20) (thread_rows n acts places) (
      cond (eqb j 19) (place_rows n acts places) (
      cond (eqb j 18) (word_rows n acts places) (
      cond (ltb j 7) (σ j) (γ j)))))

  -- past part 21 there is nothing
  book_out : (j : ℕ) → 22 ≤ j → book_from n acts places σ j ≡ never
  unfolding book_from
  book_out j l =
      get_or-eq_default
      (σ 0 ∷ σ 1 ∷ σ 2 ∷ σ 3 ∷ σ 4 ∷ σ 5 ∷ σ 6
      ∷ never ∷ never ∷ never ∷ never ∷ never ∷ never ∷ never ∷ never ∷ never ∷ never ∷ never
      ∷ word_rows n acts places ∷ place_rows n acts places ∷ thread_rows n acts places ∷ value_rows n acts places ∷ [])
      never l

  pub laid : ((j : ℕ) → 22 ≤ j → γ j ≡ never) → (j : ℕ) → laid_on j ≡ unfilled (book_from n acts places σ) γ j
  unfolding listed book_from
  laid out j = ⊎_elim
      (λ (l : j < 22). listed_same 22 laid_on (unfilled (book_from n acts places σ) γ) refl j l)
      (λ (l : 22 ≤ j). let m : 7 ≤ j = omega arith in let o : 18 ≤ j = omega arith in
      rw (ne_eqb j 21 (λ e. omega arith), ne_eqb j 20 (λ e. omega arith), ne_eqb j 19 (λ e. omega arith), ne_eqb j 18 (λ e. omega arith), le-ltb j 7 m, le-leb 7 j m, le-ltb j 18 o, out j l) (sym (book_out j l)))
      (lt_or_le j 22)
