-- Each arm's row is that of its rule; past the arms there is no rule, or rule 27, which holds.
use Prim.Native.Nat.{ℕ}
use mathlib.Core.List.{List, [], ◌∷◌}
use native.Mathlib.Omega.{arith}
use Rattle.rows.specs.Sets.{all}
use Rattle.rows.specs.Numbers.{held}
use Rattle.model.specs.Model.{rules}
use Rattle.rules.specs.Laws.Scan.{missed_holds, holds_nowhere}
use Rattle.rules.proofs.finals.row.Goals as goal

-- the numbers of the arms, in their order
abbrev arms : List (List ℕ)
arms = (28 ∷ []) ∷ (29 ∷ []) ∷ (30 ∷ []) ∷ (31 ∷ []) ∷ (32 ∷ []) ∷ (33 ∷ []) ∷ (34 ∷ []) ∷ (35 ∷ []) ∷ (36 ∷ []) ∷ []

pub returns-in-28 : goal.returns-in-28
unfolding rules
returns-in-28 c = rw c.in-28.is λ past S. c.rule28_row.ensures

pub returns-in-29 : goal.returns-in-29
unfolding rules
returns-in-29 c = rw c.in-29.is λ past S. c.rule29_row.ensures

pub returns-in-30 : goal.returns-in-30
unfolding rules
returns-in-30 c = rw c.in-30.is λ past S. c.rule30_row.ensures

pub returns-in-31 : goal.returns-in-31
unfolding rules
returns-in-31 c = rw c.in-31.is λ past S. c.rule31_row.ensures

pub returns-in-32 : goal.returns-in-32
unfolding rules
returns-in-32 c = rw c.in-32.is λ past S. c.rule32_row.ensures

pub returns-in-33 : goal.returns-in-33
unfolding rules
returns-in-33 c = rw c.in-33.is λ past S. c.rule33_row.ensures (S (omega arith))

pub returns-in-34 : goal.returns-in-34
unfolding rules
returns-in-34 c = rw c.in-34.is λ past S. c.rule34_row.ensures

pub returns-in-35 : goal.returns-in-35
unfolding rules
returns-in-35 c = rw c.in-35.is λ past S. c.rule35_row.ensures (S (omega arith))

pub returns-in-36 : goal.returns-in-36
unfolding rules
returns-in-36 c = rw c.in-36.is λ past S. c.rule36_row.ensures (S (omega arith))

pub returns-in_default : goal.returns-in_default
unfolding all
returns-in_default c = λ past S noted l.
    let s = c.args in
    let ok = missed_holds s.desk.now.n (held s.desk.now.book.now) s.rule arms S past tt c.in_default.in_default-own.rest in
    rw c.empty.ensures (holds_nowhere s.desk.now.n (held s.desk.now.book.now) s.rule s.a ok l)
