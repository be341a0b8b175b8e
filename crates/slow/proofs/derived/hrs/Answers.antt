use Rattle.rows.specs.Numbers.{held}
use Rattle.slow.specs.Laws.Relations.{hrs_by}
use Rattle.slow.proofs.derived.hrs.Goals as goal

pub returns : goal.returns
returns c =
    let s = c.args in
    rw (c.broken.ensures, c.element.ensures, c.edge.ensures, c.is.ensures) (hrs_by s.t.n (held s.t.numbers.now) s.a s.b)
