use borrow.Author.Tests.{ne_eqb}
use native.Mathlib.Omega.{arith}
use Rattle.rules.proofs.orders.inside_row.Goals as goal

pub returns-in-6 : goal.returns-in-6
returns-in-6 c = rw (c.in-6.is, c.only_if.ensures, c.contains.ensures, c.load.ensures, c.load-mutexes.ensures)

pub returns-in-10 : goal.returns-in-10
returns-in-10 c = rw (c.in-10.is, c.only_if-in-10.ensures, c.contains-in-10.ensures, c.load-acts.ensures)

pub returns-in_default : goal.returns-in_default
returns-in_default c = rw (ne_eqb c.args.rule 6 (λ e. omega arith), ne_eqb c.args.rule 10 (λ e. omega arith)) c.writes_of_row.ensures
