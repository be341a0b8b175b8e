use Rattle.relations.specs.Laws.Sync.{sw_atomic_by}
use Rattle.rows.specs.Numbers.{held}
use Rattle.relations.proofs.sync.sw_atomic_row.Goals as goal

pub returns : goal.returns
returns c =
    let a = c.args in
    λ l. rw (
      c.only_if.ensures,
      c.and-2.ensures,
      c.note.ensures,
      c.minus.ensures,
      c.row-4.ensures,
      c.and.ensures,
      c.row-3.ensures,
      c.row-2.ensures,
      c.contains-here.ensures,
      c.row.ensures,
    ) (sw_atomic_by a.desk.now.n (held a.desk.now.book.now) (held a.desk.now.notes.now) a.desk.now.noted a.a l)
