use Rattle.order.proofs.Steps.{free_is}
use Rattle.rows.specs.Numbers.{has, held}
use Rattle.order.proofs.free.Goals as goal

pub returns : goal.returns
returns c =
    let a = c.args in
    rw (c.minus.ensures, c.or.ensures, c.join-after_sc.ensures, c.join-after_hb.ensures)
    (free_is a.n (held a.d.now 13) (held a.d.now 5) (has a.left))
