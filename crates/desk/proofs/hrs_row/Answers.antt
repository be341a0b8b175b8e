use Rattle.desk.specs.Laws.Rows.{hrs_by}
use Rattle.rows.specs.Numbers.{held}
use Rattle.desk.proofs.hrs_row.Goals as goal

pub returns : goal.returns
returns c =
    let a = c.args in
    rw (
      c.or.ensures,
      c.at.ensures,
      c.and-2.ensures,
      c.minus-2.ensures,
      c.and.ensures,
      c.join-cut.ensures,
      c.minus.ensures,
      c.or-element.ensures,
      c.load-2.ensures,
      c.load.ensures,
      c.load-mo.ensures,
      c.load-places.ensures,
    ) (hrs_by a.n (held a.d.now) a.a)
