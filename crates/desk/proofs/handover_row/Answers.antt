use Rattle.desk.specs.Laws.Rows.{handover_by}
use Rattle.rows.specs.Numbers.{held}
use Rattle.desk.proofs.handover_row.Goals as goal

pub returns : goal.returns
returns c =
    let a = c.args in
    rw (c.minus.ensures, c.join_in.ensures, c.and-middle.ensures, c.load.ensures, c.kept_row-turns.ensures) (handover_by a.n (held a.d.now) a.a)
