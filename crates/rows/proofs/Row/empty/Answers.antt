use Rattle.rows.proofs.Laws.Parts.{has_none}
use Rattle.rows.proofs.Row.empty.Goals as goal

pub returns : goal.returns
returns c = has_none
