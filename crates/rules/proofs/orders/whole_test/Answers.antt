use Rattle.rows.specs.Numbers.{held}
use Rattle.rules.proofs.orders.whole_test.Goals as goal

pub returns : goal.returns
returns c = let s = c.args in
    c.strict_test.ensures s.n (held s.d.now) c.load-row.ensures c.join.ensures
