use Rattle.face.specs.Face.{judged}
use mathlib.Core.Path.{sym, ap, ◌∙◌}
use native.Mathlib.Omega.{arith}
use Rattle.face.proofs.judged_numbers.Goals as goal

pub overflow_cast-a : goal.overflow_cast-a
overflow_cast-a c = omega (arith, c.requires.pair _ _ _ _ c.in-Broken.is)

pub overflow_cast-b : goal.overflow_cast-b
overflow_cast-b c = omega (arith, c.requires.pair _ _ _ _ c.in-Broken.is)

pub broken_numbers-requires : goal.broken_numbers-requires
broken_numbers-requires c = (c.requires.pair _ _ _ _ c.in-Broken.is).2

pub returns-in-Passed : goal.returns-in-Passed
returns-in-Passed c = rw c.in-Passed.is c.ruling_numbers.ensures

pub returns-in-Broken : goal.returns-in-Broken
returns-in-Broken c = c.broken_numbers.ensures ∙ ap (judged c.args.j) (sym c.in-Broken.is)
