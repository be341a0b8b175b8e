use borrow.Author.Rules.{rules}
use Rattle.rows.proofs.Laws.Parts.{has_count}
use Rattle.rows.proofs.Row.count.Goals as goal

pub returns : goal.returns
returns c = let a = c.args in has_count a.self (search rules) (search rules)
