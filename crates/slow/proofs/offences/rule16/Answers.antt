use Rattle.rows.specs.Numbers.{held}
use Rattle.model.specs.Model.{rule16}
use Rattle.slow.specs.Laws.Rules.{fenced_by}
use Rattle.slow.proofs.offences.rule16.Goals as goal

pub returns : goal.returns
unfolding rule16
returns c =
    let s = c.args in
    rw (c.edge.ensures, c.fenced.ensures, c.writes_of.ensures) (rw (fenced_by s.t.n (held s.t.numbers.now) s.a s.b))
