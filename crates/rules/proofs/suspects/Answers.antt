-- Each arm's row has the suspects of each rule that the arm names; past the arms it is that of the later rules.
use mathlib.Core.Logic.{⊎_elim}
use native.Mathlib.Omega.{arith}
use Rattle.model.specs.Model.{rules}
use Rattle.desk.specs.Laws.Notes.{noted_size}
use Rattle.rules.specs.Laws.Suspects.{two, three, covers_one, suspects6, suspects7, suspects8, suspects11, suspects12, suspects14, suspects15, suspects16, suspects17, suspects18, suspects21, suspects22, suspects23}
use Rattle.rules.proofs.suspects.Goals as goal
use Rattle.rules.proofs.suspects.Goals.{in-21-1, in_default+else-rule-lt11+else-rule-lt13+else-rule-lt14+then-rule-lt17}

pub returns-in-1 : goal.returns-in-1
unfolding rules
returns-in-1 c = λ S h. rw c.in-1.is (covers_one _ _ _ (c.rule1_bad.ensures h))

pub returns-in-2 : goal.returns-in-2
unfolding rules
returns-in-2 c = λ S h. rw c.in-2.is (covers_one _ _ _ (c.rule2_bad.ensures h))

pub returns-in-6 : goal.returns-in-6
unfolding rules
returns-in-6 c = λ S h. rw c.row.ensures (⊎_elim
    (λ e. rw e (suspects6 _ _))
    (λ e. rw e (suspects8 _ _))
    c.in-6.is)

pub returns-in-7 : goal.returns-in-7
unfolding rules
returns-in-7 c = λ S h. rw (c.in-7.is, c.row-in-7.ensures) (suspects7 _ _)

pub returns-in-19 : goal.returns-in-19
unfolding rules
returns-in-19 c = λ S h. rw c.in-19.is (covers_one _ _ _ (c.rule19_bad.ensures h))

pub returns-in-20 : goal.returns-in-20
unfolding rules
returns-in-20 c = λ S h. rw c.in-20.is (covers_one _ _ _ (c.rule20_bad.ensures h))

pub returns-in-22 : goal.returns-in-22
unfolding rules
returns-in-22 c = λ S h. rw (c.in-22.is, c.sources.ensures, c.row-in-22.ensures) (suspects22 _ _ _ h)

pub returns-in-23 : goal.returns-in-23
unfolding rules
returns-in-23 c = λ S h. rw (c.in-23.is, c.sources-in-23.ensures, c.row-in-23.ensures) (suspects23 _ _ _ h)

pub returns-in-24 : goal.returns-in-24
unfolding rules
returns-in-24 c = λ S h. rw c.in-24.is (c.rule24_suspects.ensures h)

pub returns-in-25 : goal.returns-in-25
unfolding rules
returns-in-25 c = λ S h. rw c.in-25.is (c.rule25_suspects.ensures h)

pub returns-in-26 : goal.returns-in-26
unfolding rules
returns-in-26 c = λ S h. rw c.in-26.is (c.rule26_suspects.ensures h)

pub returns-in-11 : goal.returns-in-11
unfolding rules
returns-in-11 c = λ S h. rw c.row-in-11.ensures (⊎_elim
    (λ e. rw e (suspects11 _ _))
    (λ e. rw e (suspects12 _ _))
    (two {k = c.args.rule} 11 (omega arith) (omega arith)))

pub returns-in-17 : goal.returns-in-17
unfolding rules
returns-in-17 c = λ S h. rw (c.sources-in-17.ensures, c.full.ensures) (⊎_elim
    (λ e. rw e (suspects17 _ _ _ h (noted_size _ _ _ h)))
    (λ e. rw e (suspects18 _ _ _ h (noted_size _ _ _ h)))
    (two {k = c.args.rule} 17 (omega arith) (omega arith)))

pub returns-in_default : goal.returns-in_default
returns-in_default c = c.suspects.ensures

pub returns-in-14 : goal.returns-in-14
unfolding rules
returns-in-14 c = λ S h. rw c.row-in-14.ensures (elim c.in-14-1.branch [
  | in-21-1 w ↦ rw w.in-21-1.keys5 (suspects21 _ _)
  | in_default+else-rule-lt11+else-rule-lt13+else-rule-lt14+then-rule-lt17 w ↦ ⊎_elim (λ e. rw e (suspects14 _ _)) (⊎_elim (λ e. rw e (suspects15 _ _)) (λ e. rw e (suspects16 _ _))) (three 14 w.if-rule-lt14-1.false w.if-rule-lt17-1.true)
])
