use borrow.Author.Rules.{rules}
use Rattle.rows.proofs.Laws.Parts.{has_of_halves}
use Rattle.rows.proofs.Row.of_halves.Goals as goal

pub returns : goal.returns
returns c = has_of_halves c.args.low c.args.high (search rules) (search rules)
