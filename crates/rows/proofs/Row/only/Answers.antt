use Rattle.rows.proofs.Laws.Parts.{has_digits}
use Rattle.rows.specs.Sets.{single}
use Rattle.rows.proofs.Row.only.Goals as goal

pub returns : goal.returns
returns c =
    let a = c.args in
    has_digits _ (single a.b) c.one.ensures c.one-2.ensures
