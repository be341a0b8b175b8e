use mathlib.Core.Path.{refl}
use borrow.Author.Tests.{eq-eqb, ne_eqb}
use Rattle.model.specs.Model.{rule27}
use Rattle.slow.proofs.finals.rule27.Goals as goal

pub returns-then-b-a : goal.returns-then-b-a
unfolding rule27
returns-then-b-a c = rw (ne_eqb _ _ c.if-b-a.true)

pub returns : goal.returns
unfolding rule27
returns c = rw (c.comes_back.ensures, c.if-b-a.false, eq-eqb c.args.a _ refl)
