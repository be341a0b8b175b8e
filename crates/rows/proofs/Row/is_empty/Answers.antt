use Rattle.std.proofs.Common.{rules}
use Rattle.rows.proofs.Laws.Parts.{has_empty_test}
use Rattle.rows.proofs.Row.is_empty.Goals as goal

pub returns : goal.returns
returns c = has_empty_test c.args.self (search rules) (search rules)
