use Rattle.relations.specs.Laws.Seen.{vse_by}
use Rattle.rows.specs.Numbers.{held}
use Rattle.relations.proofs.seen.vse_row.Goals as goal

pub returns : goal.returns
returns c =
    let a = c.args in
    rw (
      c.minus.ensures,
      c.and-3.ensures,
      c.row-3.ensures,
      c.join_others-later.ensures,
      c.without.ensures,
      c.and-2.ensures,
      c.only_if-there.ensures,
      c.contains.ensures,
      c.and.ensures,
      c.row-2.ensures,
      c.row.ensures,
      c.row-writes.ensures,
    ) (vse_by a.desk.now.n (held a.desk.now.book.now) a.a)
