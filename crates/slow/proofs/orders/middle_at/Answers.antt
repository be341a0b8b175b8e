use native.Mathlib.Omega.{arith}
use mathlib.Core.Path.{sym, ap, ◌∙◌}
use borrow.Author.Tests.{ne_eqb}
use Rattle.rows.specs.Sets.{Rel}
use Rattle.rows.specs.Numbers.{held}
use Rattle.model.specs.Model.{middle, tested}
use Rattle.model.proofs.Laws.Middles.{middle_others}
use Rattle.slow.proofs.orders.middle_at.Goals as goal

pub returns-in-4 : goal.returns-in-4
unfolding tested
returns-in-4 c =
    let s = c.args in
    rw c.in-4.is (c.middle.ensures ∙ ap (λ (q : Rel). middle s.t.n (held s.t.numbers.now) q s.a s.b) c.deciding.ensures)

pub returns-in-6 : goal.returns-in-6
unfolding tested
returns-in-6 c = rw c.in-6.is c.middle-in-6.ensures

pub returns-in-10 : goal.returns-in-10
unfolding tested
returns-in-10 c = rw c.in-10.is c.middle-in-10.ensures

pub returns-in-14 : goal.returns-in-14
unfolding tested
returns-in-14 c = rw c.in-14.is c.middle-in-14.ensures

pub returns-in_default : goal.returns-in_default
returns-in_default c =
    let s = c.args in
    sym (middle_others s.t.n (held s.t.numbers.now) s.rule s.a s.b (rw (ne_eqb s.rule 4 (λ e. omega arith), ne_eqb s.rule 6 (λ e. omega arith), ne_eqb s.rule 10 (λ e. omega arith), ne_eqb s.rule 14 (λ e. omega arith))))
