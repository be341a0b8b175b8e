use mathlib.Core.Path.{refl}
use borrow.Author.Tests.{eq-eqb, ne_eqb}
use Rattle.model.specs.Model.{rule28}
use Rattle.slow.proofs.finals.rule28.Goals as goal

pub returns-then-b-a : goal.returns-then-b-a
unfolding rule28
returns-then-b-a c = rw (ne_eqb _ _ c.if-b-a.true)

pub returns : goal.returns
unfolding rule28
returns c = rw (c.differ.ensures, c.reached-2.ensures, c.reached.ensures, c.load.ensures, ← c.if-b-a.false, eq-eqb c.args.b _ refl)
