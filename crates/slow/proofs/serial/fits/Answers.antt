use borrow.Author.Tests.{eq-eqb, ne_eqb}
use Rattle.slow.proofs.serial.fits.Goals as goal

pub returns-then-edition-eq2 : goal.returns-then-edition-eq2
returns-then-edition-eq2 c = rw (eq-eqb _ 2 c.if-edition-eq2.true, c.none_loose.ensures, c.strong_actions.ensures)

pub returns : goal.returns
returns c = rw (ne_eqb _ 2 c.if-edition-eq2.false) c.strong_places.ensures
