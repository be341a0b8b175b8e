use lib.Dec.{ltb}
use Rattle.rows.proofs.Laws.Parts.{has_digits}
use Rattle.rows.proofs.Row.below.Goals as goal

pub returns : goal.returns
returns c =
    let a = c.args in
    has_digits _ (λ b. ltb b a.n) c.ones.ensures c.ones-2.ensures
