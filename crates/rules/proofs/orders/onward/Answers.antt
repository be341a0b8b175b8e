use Rattle.rules.specs.Laws.Orders.{kept_onward}
use Rattle.rows.specs.Numbers.{has, held}
use Rattle.rules.proofs.orders.onward.Goals as goal

pub returns-in-Whole : goal.returns-in-Whole
returns-in-Whole c = rw c.in-Whole.is c.join.ensures

pub returns-in-Kept : goal.returns-in-Kept
returns-in-Kept c = let s = c.args in
    rw (c.in-Kept.is, c.join_in.ensures, c.and.ensures, c.load.ensures) (kept_onward (held s.d.now) _ _ (has s.from) s.n)
