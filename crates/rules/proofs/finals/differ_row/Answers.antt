use Rattle.rows.specs.Numbers.{has}
use Rattle.rules.specs.Laws.Finals.{differ_by}
use Rattle.rules.proofs.finals.differ_row.Goals as goal

pub returns : goal.returns
returns c =
    let s = c.args in
    rw (c.or.ensures, c.minus-2.ensures, c.minus.ensures) (differ_by (has s.p) (has s.q))
