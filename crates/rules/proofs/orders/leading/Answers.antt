use Rattle.rules.specs.Laws.Orders.{kept_leading}
use Rattle.rows.specs.Numbers.{has, held}
use Rattle.rules.proofs.orders.leading.Goals as goal

pub returns-in-Whole : goal.returns-in-Whole
returns-in-Whole c = rw c.in-Whole.is c.column.ensures

pub returns-in-Kept : goal.returns-in-Kept
returns-in-Kept c = let s = c.args in
    rw (c.in-Kept.is, c.column-in-Kept.ensures, c.column-near.ensures, c.and.ensures, c.load.ensures) (kept_leading (held s.d.now) _ _ (has s.from) s.b)
