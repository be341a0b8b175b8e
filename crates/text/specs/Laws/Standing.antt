-- Stretches of a text: what stands from one place to another, and what stands along a walk.
use Prim.Native.Nat.{ℕ, zero, suc, ◌+◌, ◌<◌, ◌≤◌}
use Rattle.std.specs.Prelude.{true, List, [], ◌++◌, ◌≡◌, refl, length, drop}
use Rattle.std.proofs.Common.{append_assoc, ⊎_elim, sym, ap, ◌∙◌, le_refl, eq-or-lt_of_le, arith, length-append}
use Rattle.rows.specs.Numbers.{joined}
use Rattle.spelling.specs.Spelling.{starts, stands, word_end}
use Rattle.spelling.specs.Laws.Stands.{starts_split, starts_own, stands_split}
use Rattle.text.specs.Texts.{along}
use Rattle.text.specs.FirstBad.{Begins}

-- from q to r stands u
pub record Stretch (s : List ℕ) (q : ℕ) (u : List ℕ) (r : ℕ) : Type 0 where
  pub is : drop q s ≡ u ++ drop r s
  pub at : r ≡ q + length u

module _ (s : List ℕ) where
  pub nothing_stands : (q : ℕ) → Stretch s q [] q
  nothing_stands q = record { is = refl; at = omega arith }

  pub stands_on : (q : ℕ) (u : List ℕ) → stands s q u ≡ true → Stretch s q u (q + length u)
  stands_on q u e = record { is = stands_split s q u e; at = refl }

  pub starts_on : (u : List ℕ) → starts u s ≡ true → Stretch s 0 u (length u)
  starts_on u e = record { is = starts_split u s e; at = omega arith }

  -- a line that stands moves the place past it
  pub line_stands : (q : ℕ) (u : List ℕ) → stands s q u ≡ true → Stretch s q u (word_end s q u)
  unfolding word_end
  line_stands q u e = rw e (stands_on q u e)

  -- one stretch after another
  pub both_stand : {q r z : ℕ} (u v : List ℕ) → Stretch s q u r → Stretch s r v z → Stretch s q (u ++ v) z
  both_stand {z = z} u v a b =
      record {
        is = a.is ∙ ap (λ (l : List ℕ). u ++ l) b.is ∙ sym (append_assoc u v (drop z s));
        at = omega (arith, a.at, b.at, length-append u v);
      }

  -- lines that stand one after another: all of them stand from q on
  pub along_stands : (step : ℕ → ℕ → ℕ) (text : ℕ → List ℕ) (q m : ℕ) → ((i : ℕ) → i < m → Stretch s (along step q i) (text i) (step i (along step q i))) → Stretch s q (joined m text) (along step q m)
  unfolding along joined
  along_stands step text q zero h = nothing_stands q
  along_stands step text q (suc m) h =
      both_stand (joined m text) (text m) (along_stands step text q m (λ i l. h i (omega arith))) (h m (le_refl (suc m)))

  -- what stands from the start begins the text
  pub begins_with : (u : List ℕ) (q : ℕ) → Stretch s 0 u q → Begins u s q
  begins_with u q a =
      let e : s ≡ u ++ drop q s = a.is in
      record { is = ap (starts u) e ∙ starts_own u (drop q s); at = omega (arith, a.at) }

-- a walk stays where its steps stay
pub along_stays : (step : ℕ → ℕ → ℕ) (q i m : ℕ) → i ≤ m → ((j : ℕ) → i ≤ j → j < m → step j (along step q j) ≡ along step q j) → along step q m ≡ along step q i
unfolding along
along_stays step q i zero l h = let e : 0 ≡ i = omega arith in ap (along step q) e
along_stays step q i (suc m) l h =
    ⊎_elim
    (λ (e : i ≡ suc m). ap (along step q) (sym e))
    (λ (b : i < suc m). h m (omega arith) (le_refl (suc m)) ∙ along_stays step q i m (omega arith) (λ j c d. h j c (omega arith)))
    (eq-or-lt_of_le l)
