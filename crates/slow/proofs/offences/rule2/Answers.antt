use mathlib.Core.Path.{refl}
use borrow.Author.Tests.{eq-eqb, ne_eqb}
use Rattle.model.specs.Model.{rule2}
use Rattle.slow.proofs.offences.rule2.Goals as goal

pub returns-then-b-a : goal.returns-then-b-a
unfolding rule2
returns-then-b-a c = rw (ne_eqb _ _ c.if-b-a.true)

pub returns : goal.returns
unfolding rule2
returns c = rw (c.is-8.ensures, c.is-7.ensures, c.is-6.ensures, c.is-5.ensures, c.is-4.ensures, c.is-3.ensures, c.is-2.ensures, c.is.ensures, ← c.if-b-a.false, eq-eqb c.args.b _ refl)
