use mathlib.Core.Path.{ap}
use Rattle.rows.specs.Laws.Sets.{single_before}
use Rattle.rows.specs.Numbers.{size, has}
use Rattle.rows.specs.Sets.{either}
use Rattle.rows.proofs.Row.with.Goals as goal

pub returns : goal.returns
returns c = rw (c.or.ensures, c.only.ensures) (ap (either (has c.args.self)) (single_before c.args.b size))
