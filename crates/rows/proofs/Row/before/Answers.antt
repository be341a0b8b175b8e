use lib.Dec.{ltb}
use Rattle.rows.proofs.Laws.Parts.{has_out}
use Rattle.rows.specs.Laws.Sets.{both_in}
use Rattle.rows.specs.Numbers.{size, has}
use Rattle.rows.proofs.Row.before.Goals as goal

pub returns : goal.returns
returns c =
    let a = c.args in
    rw (c.and.ensures, c.below.ensures) (both_in size (has a.self) (λ b. ltb b a.n) (has_out a.self))
