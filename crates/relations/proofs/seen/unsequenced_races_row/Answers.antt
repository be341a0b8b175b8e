use Rattle.relations.specs.Laws.Seen.{unsequenced_by}
use Rattle.rows.specs.Numbers.{held}
use Rattle.relations.proofs.seen.unsequenced_races_row.Goals as goal

pub returns : goal.returns
returns c =
    let a = c.args in
    rw (
      c.unsequenced_row.ensures,
      c.only_if-others.ensures,
      c.contains.ensures,
      c.without.ensures,
      c.row-plain.ensures,
    ) (unsequenced_by a.desk.now.n (held a.desk.now.book.now) a.a)
