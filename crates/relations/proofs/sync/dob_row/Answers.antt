use Rattle.relations.specs.Laws.Sync.{dob_by_lem}
use Rattle.rows.specs.Numbers.{held}
use Rattle.relations.proofs.sync.dob_row.Goals as goal

pub returns : goal.returns
returns c =
    let a = c.args in
    λ l. rw (
      c.or.ensures,
      c.join.ensures,
      c.only_if-b.ensures,
      c.and.ensures,
      c.row-2.ensures,
      c.note.ensures,
      c.contains-here.ensures,
      c.row.ensures,
    ) (dob_by_lem a.desk.now.n (held a.desk.now.book.now) (held a.desk.now.notes.now) a.desk.now.noted a.a l)
