use Rattle.relations.specs.Laws.Sync.{sw_by_lem}
use Rattle.rows.specs.Numbers.{held}
use Rattle.relations.proofs.sync.sw_row.Goals as goal

pub returns : goal.returns
returns c =
    let a = c.args in
    λ l. rw (
      c.or-4.ensures,
      c.sw_atomic_fence_row.ensures l,
      c.or-3.ensures,
      c.sw_from_fence_row.ensures,
      c.or-2.ensures,
      c.sw_atomic_row.ensures l,
      c.or.ensures,
      c.sw_mutex_row.ensures,
      c.row.ensures,
    ) (sw_by_lem a.desk.now.n (held a.desk.now.book.now) a.a)
