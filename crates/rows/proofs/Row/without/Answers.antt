use Rattle.rows.proofs.Laws.Parts.{has_out}
use Rattle.rows.specs.Laws.Sets.{less_in}
use Rattle.rows.specs.Numbers.{size, has}
use Rattle.rows.specs.Sets.{single}
use Rattle.rows.proofs.Row.without.Goals as goal

pub returns : goal.returns
returns c =
    let a = c.args in
    rw (c.minus.ensures, c.only.ensures) (less_in size (has a.self) (single a.b) (has_out a.self))
