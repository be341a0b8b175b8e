-- The filled book: between actions, the relations that were entered are those that the model defines from the book as it stands in the end.
use Rattle.std.specs.Prelude.{ℕ, zero, suc, ◌+◌, ◌≤◌, ◌<◌, ◌&&◌, cond, ◌≡◌, refl, leb, ltb, get_or}
use Rattle.std.proofs.Math.Bool.{and-false}
use Rattle.std.proofs.Common.{⊎_elim, ap, ◌∙◌, arith, le-leb, le-ltb, eq-eqb, ne_eqb}
use Rattle.std.proofs.Math.Path.{fun_ext}
use Rattle.std.proofs.lemmas.Bool.{lt-leb}
use Rattle.rows.specs.Sets.{Rel, never}
use Rattle.rows.specs.Laws.Truth.{lt_or_le, eq_or_ne}
use Rattle.rows.specs.Laws.Sets.{within_at}
use Rattle.model.specs.Model.{Book, Sw, Dob, Ithb, Hb, Vse, DataRaces, UnsequencedRaces, hrs, rs, sw, cad, dob, ithb, hb, vse, vsse, data_races, unsequenced_races, derived, enter, entered, filled}

-- each relation of the book is the one defined from the book itself
pub record Filled (n : ℕ) (ρ : Book) : Type 0 where
  pub sw_is : (a b : ℕ) → a < n → b < n → Sw n ρ a b ≡ sw n ρ a b
  pub dob_is : (a b : ℕ) → a < n → b < n → Dob n ρ a b ≡ dob n ρ a b
  pub ithb_is : (a b : ℕ) → a < n → b < n → Ithb n ρ a b ≡ ithb n ρ a b
  pub hb_is : (a b : ℕ) → a < n → b < n → Hb n ρ a b ≡ hb n ρ a b
  pub vse_is : (a b : ℕ) → a < n → b < n → Vse n ρ a b ≡ vse n ρ a b
  pub data_is : (a b : ℕ) → a < n → b < n → DataRaces n ρ a b ≡ data_races n ρ a b
  pub unsequenced_is : (a b : ℕ) → a < n → b < n → UnsequencedRaces n ρ a b ≡ unsequenced_races n ρ a b

-- a later entry changes none that an earlier one was made from: at each number by computation
pub filled_is : (n : ℕ) (ρ : Book) → Filled n (filled n ρ)
unfolding entered derived hrs rs sw dob ithb hb vse data_races unsequenced_races
filled_is n ρ =
    record {
      sw_is = within_at n (sw n (entered n ρ 2));
      dob_is = within_at n (dob n (entered n ρ 4));
      ithb_is = within_at n (ithb n (entered n ρ 5));
      hb_is = within_at n (hb n (entered n ρ 6));
      vse_is = within_at n (vse n (entered n ρ 7));
      data_is = within_at n (data_races n (entered n ρ 9));
      unsequenced_is = within_at n (unsequenced_races n (entered n ρ 10));
    }

-- ---- what stands where relations 7 to 17 go is never read

-- ρ, where relations i to 17 are still those of γ
abbrev unfilled_from : ℕ → Book → Book → Book
unfilled_from i ρ γ k = cond (leb i k && ltb k 18) (γ k) (ρ k)

-- ρ, where relations 7 to 17 are still those of γ
abbrev pub unfilled : Book → Book → Book
unfilled ρ γ = unfilled_from 7 ρ γ

-- each is made of those before it, and of the words: at each number by computation
made_before : (n : ℕ) (ρ γ : Book) (m : ℕ) → m < 11 → get_or (derived n (unfilled_from (7 + m) ρ γ)) m never ≡ get_or (derived n ρ) m never
unfolding derived hrs rs sw cad dob ithb hb vse vsse data_races unsequenced_races
made_before n ρ γ zero l = refl
made_before n ρ γ (suc zero) l = refl
made_before n ρ γ (suc (suc zero)) l = refl
made_before n ρ γ (suc (suc (suc zero))) l = refl
made_before n ρ γ (suc (suc (suc (suc zero)))) l = refl
made_before n ρ γ (suc (suc (suc (suc (suc zero))))) l = refl
made_before n ρ γ (suc (suc (suc (suc (suc (suc zero)))))) l = refl
made_before n ρ γ (suc (suc (suc (suc (suc (suc (suc zero))))))) l = refl
made_before n ρ γ (suc (suc (suc (suc (suc (suc (suc (suc zero)))))))) l = refl
made_before n ρ γ (suc (suc (suc (suc (suc (suc (suc (suc (suc zero))))))))) l = refl
made_before n ρ γ (suc (suc (suc (suc (suc (suc (suc (suc (suc (suc zero)))))))))) l = refl
made_before n ρ γ (suc (suc (suc (suc (suc (suc (suc (suc (suc (suc (suc m))))))))))) l = absurd (omega arith)

-- one more is entered
enter_unfilled : (n k : ℕ) (r : Rel) (ρ γ : Book) → enter n k r (unfilled_from k ρ γ) ≡ unfilled_from (k + 1) (enter n k r ρ) γ
enter_unfilled n k r ρ γ = fun_ext λ j. ⊎_elim
    (λ (e : j ≡ k). let l : k < k + 1 = omega arith in rw (e, eq-eqb k k refl, lt-leb (k + 1) k l))
    (λ (ne : j ≡ k → ⊥).
    let same : leb k j ≡ leb (k + 1) j = ⊎_elim
    (λ (l : j < k). let h : j < k + 1 = omega arith in rw (lt-leb k j l, lt-leb (k + 1) j h))
    (λ (l : k ≤ j). let h : k + 1 ≤ j = omega arith in rw (le-leb k j l, le-leb (k + 1) j h))
    (lt_or_le j k) in
    rw (ne_eqb j k ne, same))
    (eq_or_ne j k)

entered_unfilled : (n : ℕ) (ρ γ : Book) (m : ℕ) → m ≤ 11 → entered n (unfilled ρ γ) m ≡ unfilled_from (7 + m) (entered n ρ m) γ
unfolding entered
entered_unfilled n ρ γ zero l = refl
entered_unfilled n ρ γ (suc m) l =
    let before = entered n ρ m in
    let next : 7 + m + 1 ≡ 7 + suc m = omega arith in
    rw (entered_unfilled n ρ γ m (omega arith), made_before n before γ m (omega arith)) (enter_unfilled n (7 + m) (get_or (derived n before) m never) before γ ∙ ap (λ (i : ℕ). unfilled_from i (entered n ρ (suc m)) γ) next)

-- so the filled book is the same
pub filled_any : (n : ℕ) (ρ γ : Book) → filled n (unfilled ρ γ) ≡ filled n ρ
filled_any n ρ γ = entered_unfilled n ρ γ 11 (omega arith) ∙ fun_ext λ k. ⊎_elim
    (λ (l : k < 18). rw (lt-leb 18 k l))
    (λ (l : 18 ≤ k). rw (le-ltb k 18 l, and-false (leb 18 k)))
    (lt_or_le k 18)
