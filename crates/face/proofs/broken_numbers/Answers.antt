use native.Mathlib.Omega.{arith}
use Rattle.face.proofs.broken_numbers.Goals as goal

pub overflow_cast-z : goal.overflow_cast-z
overflow_cast-z c = omega (arith, c.requires.named _ c.in-Some.is)

pub returns-in-None : goal.returns-in-None
returns-in-None c = rw c.in-None.is c.ruling_numbers.ensures

pub returns-in-Some : goal.returns-in-Some
returns-in-Some c = rw c.in-Some.is c.ruling_numbers-in-Some.ensures
