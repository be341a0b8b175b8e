use Rattle.relations.specs.Laws.Sync.{rs_by}
use Rattle.rows.specs.Numbers.{held}
use Rattle.relations.proofs.sync.rs_row.Goals as goal

pub returns : goal.returns
returns c =
    let a = c.args in
    rw (c.only_if.ensures, c.hrs_row.ensures, c.contains-release.ensures, c.row.ensures) (rs_by a.desk.now.n (held a.desk.now.book.now) a.a)
