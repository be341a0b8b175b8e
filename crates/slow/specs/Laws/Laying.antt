-- A part laid row by row, and the parts of the book.
use Rattle.std.specs.Prelude.{ℕ, ◌+◌, ◌≤◌, ◌<◌, ◌&&◌, cond, List, ◌≡◌, refl, eqb, ltb}
use Rattle.std.proofs.Common.{zero-le, ⊎_elim, ap, ◌∙◌, le_refl, arith, lt-ltb, le-ltb, eq-eqb, ne_eqb}
use Rattle.std.proofs.Math.Bool.{and_assoc}
use Rattle.std.proofs.Math.Path.{sym, fun_ext}
use Rattle.rows.specs.Sets.{Rel, none, never, either, when, before, within}
use Rattle.rows.specs.Numbers.{listed}
use Rattle.rows.specs.Laws.Lists.{listed_all}
use Rattle.rows.specs.Laws.Truth.{lt_or_le, eq_or_ne}
use Rattle.model.specs.Model.{Book}
use Rattle.model.specs.Words.{act, place_kind, word_rows, place_rows, thread_rows, value_rows, book_from}
use Rattle.model.specs.declared.Action.{Action}
use Rattle.model.specs.Laws.Books.{word_out, laid_to, laid_more}
use Rattle.slow.specs.Laying.{row, laid}

-- ---- an empty part k whose rows become p's

module _ (k : ℕ) (p : Rel) (ρ : Book) where
  pub laid_none : ((a : ℕ) → ρ k a ≡ none) → (j : ℕ) → ρ j ≡ laid_to k p ρ 0 j
  laid_none empty j = ⊎_elim
      (λ (e : j ≡ k). rw (e, eq-eqb k k refl) (fun_ext λ a. empty a ∙ rw (le-ltb a 0 zero-le)))
      (λ (ne : j ≡ k → ⊥). rw (ne_eqb j k ne))
      (eq_or_ne j k)

  -- row m, which is empty so far, gets p's members
  pub laid_next : (now new : Book) (m : ℕ) → ((j : ℕ) → now j ≡ laid_to k p ρ m j) → ((j a : ℕ) → new j a ≡ cond (eqb j k && eqb a m) (either (now k m) (p m)) (now j a)) → (j : ℕ) → new j ≡ laid_to k p ρ (m + 1) j
  laid_next now new m inv put =
      let empty : now k m ≡ none = ap (λ (r : Rel). r m) (inv k) ∙ rw (eq-eqb k k refl, le-ltb m m (le_refl m)) in
      laid_more k p ρ now new m inv λ j a. put j a ∙ rw empty

-- ---- the parts are those of the book

-- n rows of n columns
square : (n : ℕ) (r : Rel) → (λ a. when (ltb a n) (before (r a) n)) ≡ within n r
square n r = fun_ext λ a. fun_ext λ b. sym (and_assoc (ltb a n) (r a b) (ltb b n))

-- relations 0 to 6 of σ, and parts 18 to 21
module _ (σ : ℕ → Rel) (words place thread value : Rel) where
  abbrev pub parts : Book
  parts j = cond (eqb j 21) value (cond (eqb j 20) thread (cond (eqb j 19) place (cond (eqb j 18) words (cond (ltb j 7) (σ j) never))))

  parts_out : (j : ℕ) → 22 ≤ j → parts j ≡ never
  parts_out j l = let m : 7 ≤ j = omega arith in rw (ne_eqb j 21 (λ e. omega arith), ne_eqb j 20 (λ e. omega arith), ne_eqb j 19 (λ e. omega arith), ne_eqb j 18 (λ e. omega arith), le-ltb j 7 m)

module _ (n : ℕ) (acts : List Action) (places : List ℕ) (σ : ℕ → Rel) where
  words_laid : laid n acts places 18 20 ≡ word_rows n acts places
  words_laid = fun_ext λ w. fun_ext λ b. ⊎_elim (λ (l : w < 20). rw (lt-ltb w 20 l)) (λ (l : 20 ≤ w). rw (le-ltb w 20 l, word_out w (act n acts places b) (place_kind n acts places b) l)) (lt_or_le w 20)

  pub book_laid : (j : ℕ) → parts σ (laid n acts places 18 20) (laid n acts places 19 n) (laid n acts places 20 n) (laid n acts places 21 n) j ≡ book_from n acts places σ j
  unfolding listed book_from
  book_laid j =
      rw (words_laid, square n (row acts places 19), square n (row acts places 20), square n (row acts places 21)) (
      sym (listed_all (parts σ (word_rows n acts places) (place_rows n acts places) (thread_rows n acts places) (value_rows n acts places)) 22 never
      (parts_out σ (word_rows n acts places) (place_rows n acts places) (thread_rows n acts places) (value_rows n acts places)) j))
