use Rattle.std.proofs.Common.{rules}
use Rattle.rows.proofs.Laws.Parts.{zeros_none}
use Rattle.table.proofs.clear.Goals as goal

pub returns : goal.returns
returns c = rw (c.fill.ensures.after (search rules)) (zeros_none _)
