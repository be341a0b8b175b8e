-- Relations 7 to 17 worked out one after another: what is filled, what stays noted, and the store beside the desk.
use Rattle.std.specs.Prelude.{ℕ, zero, suc, ◌+◌, ◌-◌, ◌≤◌, ◌<◌, Bool, ◌&&◌, ◌||◌, cond, List, ◌≡◌, refl, eqb, leb, ltb, get_or}
use Rattle.std.proofs.Math.Bool.{and-false}
use Rattle.std.proofs.Common.{sym, ap, ◌∙◌, ⊎_elim, arith, lt-ltb, le-ltb, le-leb, eq-eqb, ne_eqb}
use Rattle.std.proofs.Math.Path.{fun_ext}
use Rattle.std.proofs.lemmas.Bool.{lt-leb}
use Rattle.rows.specs.Sets.{Rel, never, either, image, within}
use Rattle.rows.specs.Laws.Truth.{lt_or_le, eq_or_ne, same_lt}
use Rattle.rows.proofs.Laws.Quantifiers.{any_ext}
use Rattle.rows.specs.Laws.Sets.{within_at, within_ext}
use Rattle.model.specs.Model.{Book, Sb, sc_fence, hrs, r, ithb_step, derived, enter, entered}
use Rattle.desk.specs.Notes.{heard, fed, late, sc_fence_sb, sb_fence_sc, handover, sb_fences_sb, notes, Noted}
use Rattle.relations.specs.Bases.{bases}

-- what is neither closed nor filled by columns is as its rows are filled (number by number from 7 on)
pub base_is : (n : ℕ) (ρ : Book) (m : ℕ) → (m ≡ 3 → ⊥) → (m ≡ 5 → ⊥) → (m ≡ 8 → ⊥) → get_or (bases n ρ) m never ≡ get_or (derived n ρ) m never
unfolding bases derived
base_is n ρ zero x y z = refl
base_is n ρ (suc zero) x y z = refl
base_is n ρ (suc (suc zero)) x y z = refl
base_is n ρ (suc (suc (suc zero))) x y z = absurd (x refl)
base_is n ρ (suc (suc (suc (suc zero)))) x y z = refl
base_is n ρ (suc (suc (suc (suc (suc zero))))) x y z = absurd (y refl)
base_is n ρ (suc (suc (suc (suc (suc (suc zero)))))) x y z = refl
base_is n ρ (suc (suc (suc (suc (suc (suc (suc zero))))))) x y z = refl
base_is n ρ (suc (suc (suc (suc (suc (suc (suc (suc zero)))))))) x y z = absurd (z refl)
base_is n ρ (suc (suc (suc (suc (suc (suc (suc (suc (suc m))))))))) x y z = refl

-- r between the actions, and what sb leads to in it: the steps that ithb closes
pub ithb_steps : (n : ℕ) (ρ : Book) → within n (λ a. either (within n (r n ρ) a) (image n (Sb n ρ a) (within n (r n ρ)))) ≡ within n (ithb_step n ρ)
ithb_steps n ρ = within_ext n (λ a. either (within n (r n ρ) a) (image n (Sb n ρ a) (within n (r n ρ)))) (ithb_step n ρ) λ a b l m.
    rw (within_at n (r n ρ) a b l m) (ap (λ (t : Bool). r n ρ a b || t) (any_ext n _ _ λ c k. rw (within_at n (r n ρ) c b k m)))

-- ---- the notes read none of relations 7 to 17

-- they read 0, 4, 5 and 6, the words, same place and same thread
notes_ext : (n : ℕ) (ρ σ : Book) → σ 0 ≡ ρ 0 → σ 4 ≡ ρ 4 → σ 5 ≡ ρ 5 → σ 6 ≡ ρ 6 → σ 18 ≡ ρ 18 → σ 19 ≡ ρ 19 → σ 20 ≡ ρ 20 → notes n σ ≡ notes n ρ
unfolding notes hrs
notes_ext n ρ σ sb rf sc mo words place thread =
    let h0 : heard n σ ≡ heard n ρ = fun_ext λ a. fun_ext λ b. rw (rf, mo, words, thread) in
    let h1 : fed n σ ≡ fed n ρ = fun_ext λ a. fun_ext λ b. rw rf in
    let h2 : late n σ ≡ late n ρ = fun_ext λ a. fun_ext λ b. rw mo in
    let h3 : sc_fence_sb n σ ≡ sc_fence_sb n ρ = fun_ext λ a. fun_ext λ b. rw (sb, sc, words) in
    let h4 : sb_fence_sc n σ ≡ sb_fence_sc n ρ = fun_ext λ a. fun_ext λ b. rw (sb, sc, words) in
    let h5 : handover n σ ≡ handover n ρ = fun_ext λ a. fun_ext λ b. rw (sc, words, place) in
    let h6 : sb_fences_sb n σ (sc_fence n σ) ≡ sb_fences_sb n ρ (sc_fence n ρ) = fun_ext λ a. fun_ext λ b. rw (sb, sc, words) in
    rw (h0, h1, h2, h3, h4, h5, h6)

pub enter_off : (n k : ℕ) (r : Rel) (ρ : Book) (j : ℕ) → (j ≡ k → ⊥) → enter n k r ρ j ≡ ρ j
enter_off n k r ρ j ne = rw (ne_eqb j k ne)

pub notes_enter : (n k : ℕ) (r : Rel) (ρ : Book) → 7 ≤ k → k < 18 → notes n (enter n k r ρ) ≡ notes n ρ
notes_enter n k r ρ low high =
    let off = enter_off n k r ρ in
    notes_ext n ρ (enter n k r ρ)
    (off 0 (λ e. omega arith)) (off 4 (λ e. omega arith)) (off 5 (λ e. omega arith)) (off 6 (λ e. omega arith))
    (off 18 (λ e. omega arith)) (off 19 (λ e. omega arith)) (off 20 (λ e. omega arith))

-- ---- the desk before relation k is worked out

pub record Derived (n : ℕ) (ρ₀ ρ ε : Book) (k : ℕ) : Type 0 where
  pub low : 7 ≤ k
  pub high : k ≤ 18
  pub is : ρ ≡ entered n ρ₀ (k - 7)
  pub noted : Noted n ρ ε

pub derived_none : (n : ℕ) (ρ ε : Book) → Noted n ρ ε → Derived n ρ ρ ε 7
unfolding entered
derived_none n ρ ε h = record { low = omega arith; high = omega arith; is = refl; noted = h }

pub derived_more : (n : ℕ) (ρ₀ ρ new ε : Book) (k : ℕ) → k < 18 → new ≡ enter n k (get_or (derived n ρ) (k - 7) never) ρ → Derived n ρ₀ ρ ε k → Derived n ρ₀ new ε (k + 1)
unfolding entered
derived_more n ρ₀ ρ new ε k high e h =
    let low = h.low in
    let up : k + 1 - 7 ≡ suc (k - 7) = omega arith in
    let at : k ≡ 7 + (k - 7) = omega arith in
    let last = entered n ρ₀ (k - 7) in
    record {
      low = omega arith;
      high = omega arith;
      is =
          e ∙ ap (λ (q : Book). enter n k (get_or (derived n q) (k - 7) never) q) h.is
          ∙ ap (λ (i : ℕ). enter n i (get_or (derived n last) (k - 7) never) last) at
          ∙ ap (entered n ρ₀) (sym up);
      noted = record {
        is = λ j l. h.noted.is j l ∙ ap (λ (l : List Rel). within n (get_or l j never)) (sym (ap (notes n) e ∙ notes_enter n k (get_or (derived n ρ) (k - 7) never) ρ low high));
      };
    }

-- ---- the store beside the desk: relations 7 to k - 1 as on the desk, every other part as it was

abbrev pub Kept : Book → Book → Book → ℕ → Type 0
Kept ρ σ₀ σ k = (j : ℕ) → σ j ≡ cond (leb 7 j && ltb j k) (ρ j) (σ₀ j)

pub kept_none : (ρ σ : Book) → Kept ρ σ σ 7
kept_none ρ σ j = ⊎_elim (λ (l : j < 7). rw (lt-leb 7 j l)) (λ (l : 7 ≤ j). rw (le-ltb j 7 l, and-false (leb 7 j))) (lt_or_le j 7)

pub kept_more : (ρ new σ₀ σ next : Book) (k : ℕ) → 7 ≤ k → ((j : ℕ) → (j ≡ k → ⊥) → new j ≡ ρ j) → ((j : ℕ) → next j ≡ cond (eqb j k) (new k) (σ j)) → Kept ρ σ₀ σ k → Kept new σ₀ next (k + 1)
kept_more ρ new σ₀ σ next k low rest put h j = put j ∙ ⊎_elim
    (λ (e : j ≡ k). let l : k < k + 1 = omega arith in rw (e, eq-eqb k k refl, le-leb 7 k low, lt-ltb k (k + 1) l))
    (λ (ne : j ≡ k → ⊥). rw (ne_eqb j k ne, rest j ne) (h j ∙ ap (λ (t : Bool). cond (leb 7 j && t) (ρ j) (σ₀ j)) (same_lt j k j (k + 1) (λ l. omega arith) (λ l. omega arith))))
    (eq_or_ne j k)
