use mathlib.Core.Bool.{◌&&◌}
use Rattle.rows.specs.Numbers.{held}
use Rattle.model.specs.Model.{rule17}
use Rattle.slow.specs.Laws.Rules.{by_test}
use Rattle.slow.proofs.offences.rule17.Goals as goal

pub returns : goal.returns
unfolding rule17
returns c =
    let s = c.args in
    rw (c.fitting.ensures, c.edge-2.ensures, c.edge.ensures) (rw (by_test (held s.t.numbers.now 18 13 s.a) (held s.t.numbers.now 18 6 s.a && held s.t.numbers.now 18 5 s.b) (held s.t.numbers.now 21 s.a s.b && held s.t.numbers.now 18 1 s.a && held s.t.numbers.now 18 0 s.b)))
