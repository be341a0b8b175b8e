use native.Mathlib.Omega.{arith}
use Rattle.face.proofs.numbers.Goals as goal

pub overflow_cast-refusal : goal.overflow_cast-refusal
overflow_cast-refusal c =
    let r = c.in-Err.refusal in
    omega (arith, c.requires.position r.reason r.at c.in-Err.is)
