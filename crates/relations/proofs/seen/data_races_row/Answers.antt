use Rattle.relations.specs.Laws.Seen.{data_by}
use Rattle.rows.specs.Numbers.{held}
use Rattle.relations.proofs.seen.data_races_row.Goals as goal

pub returns : goal.returns
returns c =
    let a = c.args in
    rw (
      c.minus-3.ensures,
      c.column.ensures,
      c.minus-apart.ensures,
      c.row-2.ensures,
      c.minus-2.ensures,
      c.only_if.ensures,
      c.contains.ensures,
      c.minus.ensures,
      c.row.ensures,
      c.clash_row.ensures,
      c.row-atomics.ensures,
    ) (data_by a.desk.now.n (held a.desk.now.book.now) a.a)
