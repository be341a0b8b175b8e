-- Each arm's rule is the one at its number in the list; no other number has one.
use mathlib.Core.Path.{sym, ap}
use Rattle.rows.specs.Sets.{Rel}
use Rattle.rows.specs.Numbers.{held}
use Rattle.model.specs.Model.{rules}
use Rattle.slow.specs.Laws.Scan.{no_rule}
use Rattle.slow.proofs.verdict.offends.Goals as goal

pub returns-in-1 : goal.returns-in-1
unfolding rules
returns-in-1 c = rw (c.in-1.is, c.rule1.ensures)

pub returns-in-2 : goal.returns-in-2
unfolding rules
returns-in-2 c = rw (c.in-2.is, c.rule2.ensures)

pub returns-in-3 : goal.returns-in-3
unfolding rules
returns-in-3 c = rw (c.in-3.is, c.rule3.ensures)

pub returns-in-4 : goal.returns-in-4
unfolding rules
returns-in-4 c = rw (c.in-4.is, c.rule4.ensures)

pub returns-in-5 : goal.returns-in-5
unfolding rules
returns-in-5 c = rw (c.in-5.is, c.rule5.ensures)

pub returns-in-6 : goal.returns-in-6
unfolding rules
returns-in-6 c = rw (c.in-6.is, c.rule6.ensures)

pub returns-in-7 : goal.returns-in-7
unfolding rules
returns-in-7 c = rw (c.in-7.is, c.rule7.ensures)

pub returns-in-8 : goal.returns-in-8
unfolding rules
returns-in-8 c = rw (c.in-8.is, c.rule8.ensures)

pub returns-in-9 : goal.returns-in-9
unfolding rules
returns-in-9 c = rw (c.in-9.is, c.rule9.ensures)

pub returns-in-10 : goal.returns-in-10
unfolding rules
returns-in-10 c = rw (c.in-10.is, c.rule10.ensures)

pub returns-in-11 : goal.returns-in-11
unfolding rules
returns-in-11 c = rw (c.in-11.is, c.rule11.ensures)

pub returns-in-12 : goal.returns-in-12
unfolding rules
returns-in-12 c = rw (c.in-12.is, c.rule12.ensures)

pub returns-in-13 : goal.returns-in-13
unfolding rules
returns-in-13 c = rw (c.in-13.is, c.rule13.ensures)

pub returns-in-14 : goal.returns-in-14
unfolding rules
returns-in-14 c = rw (c.in-14.is, c.rule14.ensures)

pub returns-in-15 : goal.returns-in-15
unfolding rules
returns-in-15 c = rw (c.in-15.is, c.rule15.ensures)

pub returns-in-16 : goal.returns-in-16
unfolding rules
returns-in-16 c = rw (c.in-16.is, c.rule16.ensures)

pub returns-in-17 : goal.returns-in-17
unfolding rules
returns-in-17 c = rw (c.in-17.is, c.rule17.ensures)

pub returns-in-18 : goal.returns-in-18
unfolding rules
returns-in-18 c = rw (c.in-18.is, c.rule18.ensures)

pub returns-in-19 : goal.returns-in-19
unfolding rules
returns-in-19 c = rw (c.in-19.is, c.rule19.ensures)

pub returns-in-20 : goal.returns-in-20
unfolding rules
returns-in-20 c = rw (c.in-20.is, c.rule20.ensures)

pub returns-in-21 : goal.returns-in-21
unfolding rules
returns-in-21 c = rw (c.in-21.is, c.rule21.ensures)

pub returns-in-22 : goal.returns-in-22
unfolding rules
returns-in-22 c = rw (c.in-22.is, c.rule22.ensures)

pub returns-in-23 : goal.returns-in-23
unfolding rules
returns-in-23 c = rw (c.in-23.is, c.rule23.ensures)

pub returns-in-24 : goal.returns-in-24
unfolding rules
returns-in-24 c = rw (c.in-24.is, c.rule24.ensures)

pub returns-in-25 : goal.returns-in-25
unfolding rules
returns-in-25 c = rw (c.in-25.is, c.rule25.ensures)

pub returns-in-26 : goal.returns-in-26
unfolding rules
returns-in-26 c = rw (c.in-26.is, c.rule26.ensures)

pub returns-in-27 : goal.returns-in-27
unfolding rules
returns-in-27 c = rw (c.in-27.is, c.rule27.ensures)

pub returns-in-28 : goal.returns-in-28
unfolding rules
returns-in-28 c = rw (c.in-28.is, c.rule28.ensures)

pub returns-in-29 : goal.returns-in-29
unfolding rules
returns-in-29 c = rw (c.in-29.is, c.rule29.ensures)

pub returns-in-30 : goal.returns-in-30
unfolding rules
returns-in-30 c = rw (c.in-30.is, c.rule30.ensures)

pub returns-in-31 : goal.returns-in-31
unfolding rules
returns-in-31 c = rw (c.in-31.is, c.rule31.ensures)

pub returns-in-32 : goal.returns-in-32
unfolding rules
returns-in-32 c = rw (c.in-32.is, c.rule32.ensures)

pub returns-in-33 : goal.returns-in-33
unfolding rules
returns-in-33 c = rw (c.in-33.is, c.rule33.ensures)

pub returns-in-34 : goal.returns-in-34
unfolding rules
returns-in-34 c = rw (c.in-34.is, c.rule34.ensures)

pub returns-in-35 : goal.returns-in-35
unfolding rules
returns-in-35 c = rw (c.in-35.is, c.rule35.ensures)

pub returns-in-36 : goal.returns-in-36
unfolding rules
returns-in-36 c = rw (c.in-36.is, c.rule36.ensures)

pub returns-in_default : goal.returns-in_default
returns-in_default c =
    let s = c.args in
    sym (ap (λ (r : Rel). r s.a s.b) (no_rule s.t.n (held s.t.numbers.now) s.rule c.in_default.in_default-own.rest))
