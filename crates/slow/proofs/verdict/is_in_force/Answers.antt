use mathlib.Core.Bool.{or_assoc, or-false}
use Rattle.slow.proofs.verdict.is_in_force.Goals as goal

pub returns : goal.returns
returns c = simp (or_assoc, or-false)
