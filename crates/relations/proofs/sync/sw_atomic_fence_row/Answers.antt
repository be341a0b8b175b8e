use Rattle.relations.specs.Laws.Sync.{sw_atomic_fence_by}
use Rattle.rows.specs.Numbers.{held}
use Rattle.relations.proofs.sync.sw_atomic_fence_row.Goals as goal

pub returns : goal.returns
returns c =
    let a = c.args in
    λ l. rw (
      c.and-5.ensures,
      c.row-4.ensures,
      c.and-4.ensures,
      c.row-3.ensures,
      c.join.ensures,
      c.only_if-x.ensures,
      c.and-3.ensures,
      c.row-2.ensures,
      c.and-2.ensures,
      c.note.ensures,
      c.contains-here.ensures,
      c.and.ensures,
      c.row.ensures,
      c.row-atomics.ensures,
    ) (sw_atomic_fence_by a.desk.now.n (held a.desk.now.book.now) (held a.desk.now.notes.now) a.desk.now.noted a.a l)
