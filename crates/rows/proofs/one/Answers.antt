use Rattle.rows.proofs.Laws.Members.{one_here, one_there}
use Rattle.rows.proofs.one.Goals as goal

pub returns-then-b-i : goal.returns-then-b-i
returns-then-b-i c = one_here c.args.b c.args.i c.if-b-i.true

pub returns-else-b-i : goal.returns-else-b-i
returns-else-b-i c = one_there c.args.b c.args.i c.if-b-i.false
