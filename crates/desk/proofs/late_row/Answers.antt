use Rattle.desk.specs.Laws.Rows.{late_by}
use Rattle.rows.specs.Numbers.{held}
use Rattle.desk.proofs.late_row.Goals as goal

pub returns : goal.returns
returns c =
    let a = c.args in
    rw (c.minus.ensures, c.load.ensures, c.others_row.ensures) (late_by a.n (held a.d.now) a.a)
