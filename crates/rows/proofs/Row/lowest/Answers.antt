use borrow.Author.Rules.{rules}
use Rattle.rows.proofs.Laws.Parts.{has_least_high, has_least_low}
use Rattle.rows.proofs.Row.lowest.Goals as goal

pub returns-then-self-eq0 : goal.returns-then-self-eq0
returns-then-self-eq0 c = has_least_high c.args.self (search rules) c.if-self-eq0.true

pub returns : goal.returns
returns c = has_least_low c.args.self (search rules) c.if-self-eq0.false
