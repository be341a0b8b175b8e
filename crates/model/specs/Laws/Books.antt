-- The book of a candidate: what it depends on, and how it is laid: relations one after another, and a part row by row.
use Rattle.std.specs.Prelude.{ℕ, ◌+◌, ◌≤◌, ◌<◌, Bool, true, false, ◌&&◌, cond, List, ◌≡◌, refl, eqb, ltb, get_or}
use Rattle.std.proofs.Common.{zero-le, ⊎_elim, ap, ◌∙◌, arith, lit<, lt-ltb, le-ltb, eq-eqb, ne_eqb}
use Rattle.std.proofs.Math.Path.{fun_ext}
use Rattle.std.proofs.Math.ListN.{get_or-eq_default}
use Rattle.rows.specs.Sets.{Rel, when}
use Rattle.rows.specs.Laws.Sets.{before_ext, within_ext}
use Rattle.rows.specs.Laws.Truth.{eq_or_ne, same_lt}
use Rattle.model.specs.Actions.{no_action}
use Rattle.model.specs.Words.{word, word_list, word_rows, place_rows, thread_rows, value_rows, book_from}
use Rattle.model.specs.Model.{Book}
use Rattle.model.specs.declared.Action.{Action}

-- ---- what it depends on

-- the actions below n
pub book_acts : (n : ℕ) (acts others : List Action) (places : List ℕ) (σ : ℕ → Rel) → ((a : ℕ) → a < n → get_or acts a no_action ≡ get_or others a no_action) → book_from n acts places σ ≡ book_from n others places σ
unfolding book_from
book_acts n acts others places σ h =
    let words : word_rows n acts places ≡ word_rows n others places = fun_ext λ w. before_ext n _ _ (λ a l. ap (λ (x : Action). word w x (get_or places x.place 3)) (h a l)) in
    let place : place_rows n acts places ≡ place_rows n others places = within_ext n _ _ (λ a b l m. rw (h a l, h b m)) in
    let thread : thread_rows n acts places ≡ thread_rows n others places = within_ext n _ _ (λ a b l m. rw (h a l, h b m)) in
    let value : value_rows n acts places ≡ value_rows n others places = within_ext n _ _ (λ a b l m. rw (h a l, h b m)) in
    fun_ext λ k. rw (words, place, thread, value)

-- relations 0 to 6
pub book_given : (n : ℕ) (acts : List Action) (places : List ℕ) (σ τ : ℕ → Rel) → ((k : ℕ) → k < 7 → σ k ≡ τ k) → book_from n acts places σ ≡ book_from n acts places τ
unfolding book_from
book_given n acts places σ τ h = fun_ext λ k. rw (h 0 (lit< tt), h 1 (lit< tt), h 2 (lit< tt), h 3 (lit< tt), h 4 (lit< tt), h 5 (lit< tt), h 6 (lit< tt))

-- there are twenty words
pub word_out : (w : ℕ) (x : Action) (q : ℕ) → 20 ≤ w → word w x q ≡ false
unfolding word
word_out w x q l = ap (λ (f : Action → ℕ → Bool). f x q) (get_or-eq_default word_list (λ x q. false) l)

-- ---- relations laid one after another: σ's below m, ρ's from m on

module _ (σ ρ : Book) where
  abbrev pub up_to : ℕ → Book
  up_to m j = cond (ltb j m) (σ j) (ρ j)

  pub up_none : (j : ℕ) → ρ j ≡ up_to 0 j
  up_none j = rw (le-ltb j 0 zero-le)

  pub up_more : (now new : Book) (m : ℕ) → ((j : ℕ) → now j ≡ up_to m j) → ((j : ℕ) → new j ≡ cond (eqb j m) (σ m) (now j)) → (j : ℕ) → new j ≡ up_to (m + 1) j
  up_more now new m inv put j = put j ∙ rw (inv j) (⊎_elim
      (λ (e : j ≡ m). let l : m < m + 1 = omega arith in rw (e, eq-eqb m m refl, lt-ltb m (m + 1) l))
      (λ (ne : j ≡ m → ⊥). rw (ne_eqb j m ne, same_lt j m j (m + 1) (λ l. omega arith) (λ l. omega arith)))
      (eq_or_ne j m))

-- ---- a part laid row by row: part k has p's rows below m, the other parts are ρ's

module _ (k : ℕ) (p : Rel) (ρ : Book) where
  abbrev pub laid_to : ℕ → Book
  laid_to m j = cond (eqb j k) (λ a. when (ltb a m) (p a)) (ρ j)

  pub laid_more : (now new : Book) (m : ℕ) → ((j : ℕ) → now j ≡ laid_to m j) → ((j a : ℕ) → new j a ≡ cond (eqb j k && eqb a m) (p m) (now j a)) → (j : ℕ) → new j ≡ laid_to (m + 1) j
  laid_more now new m inv put j = fun_ext λ a. put j a ∙ rw (inv j) (go (eqb j k) a)
    where
      go : (t : Bool) (a : ℕ) → cond (t && eqb a m) (p m) (cond t (λ x. when (ltb x m) (p x)) (ρ j) a) ≡ cond t (λ x. when (ltb x (m + 1)) (p x)) (ρ j) a
      go true a = ⊎_elim
          (λ (e : a ≡ m). let l : m < m + 1 = omega arith in rw (e, eq-eqb m m refl, lt-ltb m (m + 1) l))
          (λ (ne : a ≡ m → ⊥). rw (ne_eqb a m ne, same_lt a m a (m + 1) (λ l. omega arith) (λ l. omega arith)))
          (eq_or_ne a m)
      go false a = refl
