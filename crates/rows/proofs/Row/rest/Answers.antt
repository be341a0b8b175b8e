use borrow.Author.Rules.{rules}
use Rattle.rows.proofs.Laws.Parts.{has_rest_low, has_rest_high, has_rest_none}
use Rattle.rows.proofs.Row.rest.Goals as goal

pub returns-then-self-ne0 : goal.returns-then-self-ne0
returns-then-self-ne0 c = has_rest_low c.args.self (search rules) c.if-self-ne0.true

pub returns-then-self-ne0-2 : goal.returns-then-self-ne0-2
returns-then-self-ne0-2 c = has_rest_high c.args.self (search rules) c.if-self-ne0.false c.if-self-ne0-2.true

pub returns : goal.returns
returns c = has_rest_none c.args.self c.if-self-ne0.false c.if-self-ne0-2.false
