use Rattle.desk.specs.Laws.Rows.{clash_by}
use Rattle.rows.specs.Numbers.{held}
use Rattle.desk.proofs.clash_row.Goals as goal

pub returns : goal.returns
returns c =
    let a = c.args in
    rw (
      c.or.ensures,
      c.only_if.ensures,
      c.contains.ensures,
      c.and.ensures,
      c.load-place.ensures,
      c.load-writes.ensures,
    ) (clash_by a.n (held a.d.now) a.a)
