-- Each arm's row has the suspects of each rule that the arm names; rule 27 has none, since it holds; past the arms it has every action.
use Prim.Native.Nat.{ℕ, ◌≤◌, ◌<◌}
use mathlib.Core.Bool.{◌||◌}
use mathlib.Core.List.{List, [], ◌∷◌}
use mathlib.Core.Logic.{◌⊎◌, inl, inr, ⊎_elim}
use mathlib.Core.Path.{◌≡◌}
use native.Mathlib.Omega.{arith}
use lib.Dec.{T, eqb, ltb, eqb→eq, ltb→lt}
use Rattle.rows.specs.Sets.{all}
use Rattle.rows.specs.Numbers.{size}
use Rattle.rows.proofs.Laws.Covers.{covers_all}
use Rattle.rows.specs.Laws.Truth.{or_e}
use Rattle.model.specs.Model.{rules}
use Rattle.desk.specs.Laws.Notes.{noted_size}
use Rattle.rules.specs.Laws.Scan.{Missed, missed_rest, holds_covered}
use Rattle.rules.specs.Laws.Suspects.{covers_one, suspects29, suspects30, suspects31, suspects32, suspects33, suspects34, suspects35, suspects36}
use Rattle.rules.proofs.finals.suspects.Goals as goal

-- of the numbers from 27 on and below 36, the arms of one number leave 34 and 35
abbrev arms : List (List ℕ)
arms = (27 ∷ []) ∷ (28 ∷ []) ∷ (29 ∷ []) ∷ (30 ∷ []) ∷ (31 ∷ []) ∷ (32 ∷ []) ∷ (33 ∷ []) ∷ (36 ∷ []) ∷ []

left : (k : ℕ) → 27 ≤ k → k < 36 → Missed k Unit arms → (k ≡ 34) ⊎ (k ≡ 35)
unfolding all
left k l u missed =
    ⊎_elim
    (λ (h : T (ltb k 27 || (eqb k 34 || eqb k 35))).
    ⊎_elim (λ (t : T (ltb k 27)). absurd (omega (arith, ltb→lt k 27 t)))
    (λ (t : T (eqb k 34 || eqb k 35)). ⊎_elim (λ (e : T (eqb k 34)). inl (eqb→eq k 34 e)) (λ (e : T (eqb k 35)). inr (eqb→eq k 35 e)) (or_e (eqb k 34) (eqb k 35) t))
    (or_e (ltb k 27) (eqb k 34 || eqb k 35) h))
    (λ (h : 36 ≤ k). absurd (omega arith))
    (missed_rest k 36 (λ j. ltb j 27 || (eqb j 34 || eqb j 35)) arms tt missed)

pub returns-in-27 : goal.returns-in-27
unfolding rules
returns-in-27 c = rw c.in-27.is λ S noted. holds_covered _ _ 27 _ (S (omega arith)).acyclic

pub returns-in-28 : goal.returns-in-28
unfolding rules
returns-in-28 c = rw c.in-28.is λ S noted. covers_one _ _ _ (c.rule28_bad.ensures noted)

pub returns-in-29 : goal.returns-in-29
unfolding rules
returns-in-29 c = λ S noted. rw (c.in-29.is, c.sources.ensures, c.row.ensures) (suspects29 _ _ _ noted)

pub returns-in-30 : goal.returns-in-30
unfolding rules
returns-in-30 c = λ S noted. rw (c.in-30.is, c.sources-in-30.ensures, c.row-in-30.ensures) (suspects30 _ _ _ noted)

pub returns-in-31 : goal.returns-in-31
unfolding rules
returns-in-31 c = λ S noted. rw (c.in-31.is, c.only_if.ensures, c.is_empty.ensures, c.row-in-31.ensures, c.full.ensures) (suspects31 _ _ (noted_size _ _ _ noted))

pub returns-in-32 : goal.returns-in-32
unfolding rules
returns-in-32 c = λ S noted. rw (c.in-32.is, c.sources-in-32.ensures, c.row-in-32.ensures) (suspects32 _ _ _ noted)

pub returns-in-33 : goal.returns-in-33
unfolding rules
returns-in-33 c = rw (c.in-33.is, c.and.ensures, c.row-in-33-2.ensures, c.row-in-33.ensures) λ S noted. suspects33 _ _ (S (omega arith))

pub returns-in-36 : goal.returns-in-36
unfolding rules
returns-in-36 c = rw (c.in-36.is, c.join.ensures, c.row-in-36.ensures) λ S noted. suspects36 _ _ (S (omega arith))

pub returns-in-34 : goal.returns-in-34
unfolding rules
returns-in-34 c = λ S noted. rw (c.sources-in-34.ensures, c.full-in-34.ensures) (⊎_elim
    (λ e. rw e (suspects34 _ _ _ noted (noted_size _ _ _ noted)))
    (λ e. rw e (suspects35 _ _ _ noted (noted_size _ _ _ noted)))
    (left _ c.in-34.if-rule-lt27-own.false c.in-34.if-rule-lt36-own.true c.in-34.in_default-own.rest))

pub returns-in_default : goal.returns-in_default
returns-in_default c = λ S noted. rw c.full-in_default.ensures (covers_all _ _ size (noted_size _ _ _ noted))
