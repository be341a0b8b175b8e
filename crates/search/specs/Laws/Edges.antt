-- Edges given to a book and taken back, the book with relations 7 to 17 blank, and what a desk that was judged leaves in the store.
use Rattle.std.specs.Prelude.{ℕ, zero, suc, ◌+◌, ◌<◌, ◌≤◌, true, false, cond, ◌&&◌, ◌≡◌, refl, eqb, leb, ltb, get_or}
use Rattle.std.proofs.Math.Bool.{and-false}
use Rattle.std.proofs.Common.{⊎_elim, sym, ap, ◌∙◌, arith, eqb-true, eq-eqb, ne_eqb, le-leb, lt-ltb, le-ltb}
use Rattle.std.proofs.Math.Path.{fun_ext}
use Rattle.std.proofs.lemmas.Bool.{lt-leb}
use Rattle.rows.specs.Sets.{Set, Rel, never, either}
use Rattle.rows.specs.Laws.Truth.{test, and_1, and_2, lt_or_le, eq_or_ne}
use Rattle.model.specs.Model.{Book, derived, enter, entered, filled}
use Rattle.model.specs.Laws.Filled.{filled_any}
use Rattle.model.specs.Laws.Placing.{Placing}
use Rattle.choices.specs.Lists.{adds}
use Rattle.search.specs.Finds.{nothing, blank, replaced, Kept, Laid}

-- ---- a row of a relation

-- a row of a book, and every other one
in_row : (k a : ℕ) (f g : Book) → f k a ≡ g k a → ((j x : ℕ) → eqb j k && eqb x a ≡ false → f j x ≡ g j x) → f ≡ g
in_row k a f g here there = fun_ext λ j. fun_ext λ x. ⊎_elim
    (λ (e : eqb j k && eqb x a ≡ true). rw (eqb-true j k (and_1 (eqb j k) (eqb x a) e), eqb-true x a (and_2 (eqb j k) (eqb x a) e)) here)
    (there j x)
    (test (eqb j k && eqb x a))

-- edges given to a row
pub adds_is : (k a : ℕ) (s : Set) (σ : Book) → adds k a s σ ≡ replaced k a (either (σ k a) s) σ
adds_is k a s σ = in_row k a (adds k a s σ) (replaced k a (either (σ k a) s) σ) refl (λ j x e. rw e)

-- what a row was is put back
pub back_again : (k a : ℕ) (s old : Set) (σ τ υ : Book) → τ ≡ adds k a s σ → old ≡ σ k a → υ ≡ replaced k a old τ → υ ≡ σ
back_again k a s old σ τ υ given was back = back ∙ rw (given, was) (in_row k a (replaced k a (σ k a) (adds k a s σ)) σ (rw (eq-eqb k k refl, eq-eqb a a refl)) (λ j x e. rw e))

-- ---- places

-- a book with the same words and the same places
placing_same : (n : ℕ) (ρ σ : Book) → σ 18 ≡ ρ 18 → σ 19 ≡ ρ 19 → Placing n ρ → Placing n σ
placing_same n ρ σ words places h =
    record {
      place_sym = rw places h.place_sym;
      place_trans = rw places h.place_trans;
      at_mutex_too = rw (words, places) h.at_mutex_too;
      at_plain_too = rw (words, places) h.at_plain_too;
      at_atomic_too = rw (words, places) h.at_atomic_too;
    }

pub placing_adds : (n k a : ℕ) (s : Set) (σ : Book) → k < 7 → Placing n σ → Placing n (adds k a s σ)
placing_adds n k a s σ l h = placing_same n σ (adds k a s σ) (fun_ext λ x. rw (ne_eqb 18 k (λ e. omega arith))) (fun_ext λ x. rw (ne_eqb 19 k (λ e. omega arith))) h

-- ---- relations 7 to 17 blank

-- what stood there is never read
pub blank_filled : (n : ℕ) (ρ : Book) → filled n (blank ρ) ≡ filled n ρ
unfolding blank
blank_filled n ρ = filled_any n ρ nothing

-- the given relations stay
pub blank_low : (ρ : Book) (k : ℕ) → k < 7 → blank ρ k ≡ ρ k
unfolding blank
blank_low ρ k l = rw (lt-leb 7 k l)

-- a row of one of them is put
pub blank_put : (k a : ℕ) (s : Set) (ρ ρ' : Book) → k < 7 → ((j x : ℕ) → ρ' j x ≡ replaced k a s ρ j x) → blank ρ' ≡ replaced k a s (blank ρ)
unfolding blank
blank_put k a s ρ ρ' l put = fun_ext λ j. fun_ext λ x. ⊎_elim
    (λ (e : j ≡ k). rw (e, lt-leb 7 k l) (put k x))
    (λ (ne : j ≡ k → ⊥).
    let kept : ρ' j ≡ ρ j = fun_ext λ y. put j y ∙ rw (ne_eqb j k ne) in
    rw (ne_eqb j k ne, kept))
    (eq_or_ne j k)

-- ---- relations 7 to 17 worked out

-- places are among the words
pub placing_filled : (n : ℕ) (ρ : Book) → Placing n (blank ρ) → Placing n (filled n ρ)
unfolding blank entered
placing_filled n ρ h = placing_same n (blank ρ) (filled n ρ) refl refl h

-- all but relations 7 to 17 stays
enter_blank : (n k : ℕ) (r : Rel) (ρ : Book) → 7 ≤ k → k < 18 → blank (enter n k r ρ) ≡ blank ρ
unfolding blank
enter_blank n k r ρ low high = fun_ext λ j. ⊎_elim
    (λ (e : j ≡ k). rw (e, le-leb 7 k low, lt-ltb k 18 high))
    (λ (ne : j ≡ k → ⊥). rw (ne_eqb j k ne))
    (eq_or_ne j k)

entered_blank : (n : ℕ) (ρ : Book) (m : ℕ) → m ≤ 11 → blank (entered n ρ m) ≡ blank ρ
unfolding entered
entered_blank n ρ zero l = refl
entered_blank n ρ (suc m) l = enter_blank n (7 + m) (get_or (derived n (entered n ρ m)) m never) (entered n ρ m) (omega arith) (omega arith) ∙ entered_blank n ρ m (omega arith)

pub filled_blank : (n : ℕ) (ρ : Book) → blank (filled n ρ) ≡ blank ρ
filled_blank n ρ = entered_blank n ρ 11 (omega arith)

-- ---- the store

-- three relations copied one after another
pub half_laid : (s s₁ s₂ s₃ d : Book) → ((j : ℕ) → s₁ j ≡ cond (eqb j 4) (d 4) (s j)) → ((j : ℕ) → s₂ j ≡ cond (eqb j 5) (d 5) (s₁ j)) → ((j : ℕ) → s₃ j ≡ cond (eqb j 6) (d 6) (s₂ j))
    → (j : ℕ) → s₃ j ≡ cond (leb 4 j && ltb j 7) (d j) (s j)
half_laid s s₁ s₂ s₃ d rf sc mo j = ⊎_elim
    (λ (e : j ≡ 6). rw e (mo 6))
    (λ (n6 : j ≡ 6 → ⊥). mo j ∙ rw (ne_eqb j 6 n6) (⊎_elim
    (λ (e : j ≡ 5). rw e (sc 5))
    (λ (n5 : j ≡ 5 → ⊥). sc j ∙ rw (ne_eqb j 5 n5) (⊎_elim
    (λ (e : j ≡ 4). rw e (rf 4))
    (λ (n4 : j ≡ 4 → ⊥). rf j ∙ rw (ne_eqb j 4 n4) (⊎_elim
    (λ (l : j < 4). rw (lt-leb 4 j l))
    (λ (l : 4 ≤ j). let h : 7 ≤ j = omega arith in rw (le-ltb j 7 h, and-false (leb 4 j)))
    (lt_or_le j 4)))
    (eq_or_ne j 4)))
    (eq_or_ne j 5)))
    (eq_or_ne j 6)

-- a desk that was judged: its relations 7 to 17 are in the store
module _ (n : ℕ) (ρ s s₁ : Book) (judged : (j : ℕ) → s₁ j ≡ cond (leb 7 j && ltb j 18) (filled n (blank ρ) j) (s j)) where
  pub judged_kept : Kept s s₁
  judged_kept j e = judged j ∙ rw e

  -- and rf, sc and mo, which it still has, are laid there
  pub judged_laid : (d s₂ : Book) → blank d ≡ blank ρ → ((j : ℕ) → s₂ j ≡ cond (leb 4 j && ltb j 7) (d j) (s₁ j)) → Laid n (blank ρ) s s₂
  judged_laid d s₂ same laid j = laid j ∙ ⊎_elim
      (λ (l : j < 7).
      let m : j < 18 = omega arith in
      let kept : s₁ j ≡ s j = judged j ∙ rw (lt-leb 7 j l) in
      let half : d j ≡ filled n (blank ρ) j = sym (blank_low d j l) ∙ ap (λ (σ : Book). σ j) (same ∙ sym (filled_blank n ρ)) ∙ blank_low (filled n ρ) j l ∙ ap (λ (σ : Book). σ j) (sym (blank_filled n ρ)) in
      rw (lt-ltb j 7 l, lt-ltb j 18 m, kept, half))
      (λ (l : 7 ≤ j). let m : 4 ≤ j = omega arith in rw (le-ltb j 7 l, le-leb 4 j m) (judged j ∙ rw (le-leb 7 j l)))
      (lt_or_le j 7)
