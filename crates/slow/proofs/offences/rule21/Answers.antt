use Rattle.rows.specs.Numbers.{held}
use Rattle.model.specs.Model.{rule21}
use Rattle.slow.specs.Laws.Rules.{stale_by}
use Rattle.slow.proofs.offences.rule21.Goals as goal

pub returns : goal.returns
unfolding rule21
returns c =
    let s = c.args in
    rw (c.of_atomic.ensures, c.edge.ensures, c.stale.ensures) (rw (stale_by s.t.n (held s.t.numbers.now) s.a s.b))
