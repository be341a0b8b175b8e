-- Relations 7 to 17 from what is filled pair by pair.
use Rattle.std.specs.Prelude.{ℕ, zero, suc, ◌+◌, ◌-◌, ◌≤◌, ◌<◌, ◌≡◌, refl, get_or}
use Rattle.std.proofs.Common.{sym, ap, ◌∙◌, subst, arith, ne_eqb}
use Rattle.rows.specs.Sets.{Rel, never, within, closure}
use Rattle.rows.specs.Laws.Sets.{within_at, within_ext}
use Rattle.rows.proofs.Laws.Closure.{closure_ext}
use Rattle.model.specs.Model.{Book, hrs, rs, sw, dob, derived, enter, entered}
use Rattle.model.specs.Laws.Entered.{Entering}
use Rattle.slow.specs.Searches.{Sequences, sw_by, dob_by, steps}
use Rattle.slow.specs.Laws.Relations.{sw_by_lem, dob_by_lem}

-- ---- relation 7 + m

-- the paths of steps between the actions are those of all steps
pub closed : (n : ℕ) (r : Rel) → within n (closure n (within n r)) ≡ within n (closure n r)
closed n r = within_ext n (closure n (within n r)) (closure n r) (closure_ext n (within n r) r (within_at n r))

-- all but cad and ithb are filled pair by pair
pub step_is : (n : ℕ) (ρ : Book) (m : ℕ) → (m ≡ 3 → ⊥) → (m ≡ 5 → ⊥) → (2 ≤ m → Sequences n ρ) → within n (get_or (steps n ρ) m never) ≡ within n (get_or (derived n ρ) m never)
unfolding steps derived
step_is n ρ zero x y S = refl
step_is n ρ (suc zero) x y S = refl
step_is n ρ (suc (suc zero)) x y S = within_ext n (sw_by n ρ) (sw n ρ) (λ a b la lb. sw_by_lem n ρ (S (omega arith)) a b la)
step_is n ρ (suc (suc (suc zero))) x y S = absurd (x refl)
step_is n ρ (suc (suc (suc (suc zero)))) x y S = within_ext n (dob_by n ρ) (dob n ρ) (λ a b la lb. dob_by_lem n ρ (S (omega arith)) a b la)
step_is n ρ (suc (suc (suc (suc (suc zero))))) x y S = absurd (y refl)
step_is n ρ (suc (suc (suc (suc (suc (suc m)))))) x y S = refl

-- ---- relations 7 and 8 stand in the book from the time that both are entered: they read relation 6, the words and same thread

sequences_enter : (n k : ℕ) (r : Rel) (ρ : Book) → 9 ≤ k → k < 18 → Sequences n ρ → Sequences n (enter n k r ρ)
unfolding rs hrs
sequences_enter n k r ρ low high S =
    let mo = ne_eqb 6 k (λ e. omega arith) in
    let words = ne_eqb 18 k (λ e. omega arith) in
    let thread = ne_eqb 20 k (λ e. omega arith) in
    record {
      rs_is = λ a b la lb. rw (ne_eqb 7 k (λ e. omega arith), mo, words, thread) (S.rs_is a b la lb);
      hrs_is = λ a b la lb. rw (ne_eqb 8 k (λ e. omega arith), mo, words, thread) (S.hrs_is a b la lb);
    }

sequences_at : (n : ℕ) (ρ : Book) (m : ℕ) → m < 10 → Sequences n (entered n ρ (suc (suc m)))
unfolding entered derived rs hrs
sequences_at n ρ zero l = record { rs_is = within_at n (rs n ρ); hrs_is = within_at n (hrs n ρ) }
sequences_at n ρ (suc m) l = let last = entered n ρ (suc (suc m)) in sequences_enter n (7 + suc (suc m)) (get_or (derived n last) (suc (suc m)) never) last (omega arith) (omega arith) (sequences_at n ρ m (omega arith))

pub sequences : (n : ℕ) (ρ₀ ρ : Book) (k : ℕ) → Entering n ρ₀ ρ k → 9 ≤ k → Sequences n ρ
sequences n ρ₀ ρ k h low =
    let high = h.high in
    let at : k - 7 ≡ suc (suc (k - 9)) = omega arith in
    subst (Sequences n) (sym (h.is ∙ ap (entered n ρ₀) at)) (sequences_at n ρ₀ (k - 9) (omega arith))
