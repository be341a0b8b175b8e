use borrow.Author.Rules.{rules}
use Rattle.rows.proofs.Laws.Parts.{has_of}
use Rattle.rows.proofs.Row.of.Goals as goal

pub returns : goal.returns
returns c = has_of c.args.word (search rules)
