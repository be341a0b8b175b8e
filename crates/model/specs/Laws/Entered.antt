-- Relations 7 to 17 entered one after another: the book before relation k is worked out, and a store beside it.
use Rattle.std.specs.Prelude.{ℕ, suc, ◌+◌, ◌-◌, ◌≤◌, ◌<◌, Bool, ◌&&◌, cond, ◌≡◌, refl, eqb, leb, ltb, get_or}
use Rattle.std.proofs.Math.Bool.{and-false}
use Rattle.std.proofs.Common.{sym, ap, ◌∙◌, ⊎_elim, arith, lt-ltb, le-ltb, le-leb, eq-eqb, ne_eqb}
use Rattle.std.proofs.lemmas.Bool.{lt-leb}
use Rattle.rows.specs.Sets.{Rel, never}
use Rattle.rows.specs.Laws.Truth.{lt_or_le, eq_or_ne, same_lt}
use Rattle.model.specs.Model.{Book, derived, enter, entered, filled}

-- an entry changes no other relation
pub enter_off : (n k : ℕ) (r : Rel) (ρ : Book) (j : ℕ) → (j ≡ k → ⊥) → enter n k r ρ j ≡ ρ j
enter_off n k r ρ j ne = rw (ne_eqb j k ne)

-- ---- the book before relation k is worked out

pub record Entering (n : ℕ) (ρ₀ ρ : Book) (k : ℕ) : Type 0 where
  pub low : 7 ≤ k
  pub high : k ≤ 18
  pub is : ρ ≡ entered n ρ₀ (k - 7)

pub entering_none : (n : ℕ) (ρ : Book) → Entering n ρ ρ 7
unfolding entered
entering_none n ρ = record { low = omega arith; high = omega arith; is = refl }

pub entering_more : (n : ℕ) (ρ₀ ρ new : Book) (k : ℕ) → k < 18 → new ≡ enter n k (get_or (derived n ρ) (k - 7) never) ρ → Entering n ρ₀ ρ k → Entering n ρ₀ new (k + 1)
unfolding entered
entering_more n ρ₀ ρ new k high e h =
    let low = h.low in
    let up : k + 1 - 7 ≡ suc (k - 7) = omega arith in
    let at : k ≡ 7 + (k - 7) = omega arith in
    let last = entered n ρ₀ (k - 7) in
    record {
      low = omega arith;
      high = omega arith;
      is =
          e ∙ ap (λ (q : Book). enter n k (get_or (derived n q) (k - 7) never) q) h.is
          ∙ ap (λ (i : ℕ). enter n i (get_or (derived n last) (k - 7) never) last) at
          ∙ ap (entered n ρ₀) (sym up);
    }

-- all of them worked out
pub entering_done : (n : ℕ) (ρ₀ ρ : Book) (k : ℕ) → 18 ≤ k → Entering n ρ₀ ρ k → ρ ≡ filled n ρ₀
entering_done n ρ₀ ρ k end h =
    let high = h.high in
    let all : k - 7 ≡ 11 = omega arith in
    h.is ∙ ap (entered n ρ₀) all

-- ---- the store beside the book: relations 7 to k - 1 as in the book, every other part as it was

abbrev pub Kept : Book → Book → Book → ℕ → Type 0
Kept ρ σ₀ σ k = (j : ℕ) → σ j ≡ cond (leb 7 j && ltb j k) (ρ j) (σ₀ j)

pub kept_none : (ρ σ : Book) → Kept ρ σ σ 7
kept_none ρ σ j = ⊎_elim (λ (l : j < 7). rw (lt-leb 7 j l)) (λ (l : 7 ≤ j). rw (le-ltb j 7 l, and-false (leb 7 j))) (lt_or_le j 7)

pub kept_more : (ρ new σ₀ σ next : Book) (k : ℕ) → 7 ≤ k → ((j : ℕ) → (j ≡ k → ⊥) → new j ≡ ρ j) → ((j : ℕ) → next j ≡ cond (eqb j k) (new k) (σ j)) → Kept ρ σ₀ σ k → Kept new σ₀ next (k + 1)
kept_more ρ new σ₀ σ next k low rest put h j = put j ∙ ⊎_elim
    (λ (e : j ≡ k). let l : k < k + 1 = omega arith in rw (e, eq-eqb k k refl, le-leb 7 k low, lt-ltb k (k + 1) l))
    (λ (ne : j ≡ k → ⊥). rw (ne_eqb j k ne, rest j ne) (h j ∙ ap (λ (t : Bool). cond (leb 7 j && t) (ρ j) (σ₀ j)) (same_lt j k j (k + 1) (λ l. omega arith) (λ l. omega arith))))
    (eq_or_ne j k)
