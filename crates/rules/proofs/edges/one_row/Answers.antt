use Rattle.rows.specs.Sets.{never}
use Rattle.rows.specs.Numbers.{has}
use Rattle.rules.specs.Laws.Reads.{at_one}
use Rattle.rules.proofs.edges.one_row.Goals as goal

pub returns : goal.returns
returns c =
    let s = c.args in
    rw c.at.ensures (at_one 0 (λ j. never) (has s.bad) s.a)
