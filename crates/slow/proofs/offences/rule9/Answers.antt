use mathlib.Core.Path.{refl}
use borrow.Author.Tests.{eq-eqb, ne_eqb}
use Rattle.model.specs.Model.{rule9}
use Rattle.slow.proofs.offences.rule9.Goals as goal

pub returns-then-b-a : goal.returns-then-b-a
unfolding rule9
returns-then-b-a c = rw (ne_eqb _ _ c.if-b-a.true)

pub returns : goal.returns
unfolding rule9
returns c = rw (c.edge.ensures, ← c.if-b-a.false, eq-eqb c.args.b _ refl)
