use Rattle.relations.specs.Laws.Seen.{visible_by}
use Rattle.rows.specs.Numbers.{held}
use Rattle.relations.proofs.seen.visible_row.Goals as goal

pub returns : goal.returns
returns c =
    let a = c.args in
    rw (
      c.minus-2.ensures,
      c.join.ensures,
      c.and.ensures,
      c.minus.ensures,
      c.row-hb.ensures,
      c.row-mo.ensures,
    ) (visible_by a.desk.now.n (held a.desk.now.book.now) a.b a.v)
