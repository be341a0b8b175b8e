use mathlib.Core.Bool.{Bool, ◌&&◌}
use mathlib.Core.Path.{ap, fun_ext}
use Rattle.rows.proofs.Laws.Parts.{held_to}
use Rattle.rows.specs.Numbers.{has}
use Rattle.rows.proofs.column.Goals as goal

pub returns : goal.returns
returns c =
    let a = c.args in
    rw (c.leading.ensures, c.only.ensures) (fun_ext λ b. ap (λ (t : Bool). has a.from b && t) (held_to a.d.now a.k b a.a))
