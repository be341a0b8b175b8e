use Rattle.rows.proofs.Laws.Parts.{has_out}
use Rattle.rows.specs.Laws.Sets.{both_in}
use Rattle.rows.specs.Numbers.{size, has}
use Rattle.rows.specs.Sets.{single}
use Rattle.rows.proofs.Row.at.Goals as goal

pub returns : goal.returns
returns c =
    let a = c.args in
    rw (c.and.ensures, c.only.ensures) (both_in size (has a.self) (single a.b) (has_out a.self))
