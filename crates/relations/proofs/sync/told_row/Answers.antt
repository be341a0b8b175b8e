use Rattle.relations.specs.Laws.Sync.{told_by}
use Rattle.rows.specs.Numbers.{held}
use Rattle.relations.proofs.sync.told_row.Goals as goal

pub returns : goal.returns
returns c =
    let a = c.args in
    rw (
      c.join_in.ensures,
      c.and-writes.ensures,
      c.atomic_writes.ensures,
      c.row.ensures,
    ) (told_by a.desk.now.n (held a.desk.now.book.now) (held a.desk.now.notes.now) a.desk.now.noted a.a)
