use Rattle.rows.specs.Numbers.{held}
use Rattle.rules.specs.Laws.Edges.{writes_by}
use Rattle.rules.proofs.edges.writes_of_row.Goals as goal

pub returns : goal.returns
returns c =
    let s = c.args in
    rw (
      c.and.ensures,
      c.only_if-2.ensures,
      c.contains-2.ensures,
      c.only_if.ensures,
      c.contains.ensures,
      c.load.ensures,
      c.load-atomics.ensures,
      c.load-writes.ensures,
    ) (writes_by s.n (held s.d.now) s.a)
