use mathlib.Core.Path.{refl}
use Rattle.rows.proofs.Laws.Parts.{held_two}
use Rattle.rows.proofs.stored.Goals as goal

pub returns : goal.returns
returns c = held_two c.args.d.now c.args.k c.args.a _ c.requires.0 c.requires.1 refl refl
