use mathlib.Core.Path.{sym}
use Rattle.rows.proofs.Laws.Parts.{has_bit}
use Rattle.rows.specs.Numbers.{bit}
use Rattle.rows.proofs.Row.contains.Goals as goal

pub returns : goal.returns
unfolding bit
returns c = rw c.number.ensures (sym (has_bit c.args.self c.args.b))
