use Rattle.std.proofs.Common.{arith}
use Rattle.page.specs.Laws.Measured.{measures}
use Rattle.page.proofs.offer.Goals as goal

pub returns-then-length-most : goal.returns-then-length-most
returns-then-length-most g c = λ t told. let wrote = told _ _ c.text.ensures in grind (arith, measures, wrote)

pub returns : goal.returns
returns g c = λ t told. let wrote = told _ _ c.text.ensures in let again = told _ _ c.text-2.ensures in grind (arith, measures, wrote, again)
