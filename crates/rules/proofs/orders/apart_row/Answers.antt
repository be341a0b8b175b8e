use mathlib.Core.Bool.{Bool, not, ◌&&◌, and_comm}
use mathlib.Core.Path.{ap, fun_ext}
use lib.Dec.{ltb}
use Rattle.rows.specs.Numbers.{has}
use Rattle.rules.proofs.orders.apart_row.Goals as goal

pub returns : goal.returns
returns c =
    let s = c.args in
    rw (c.minus.ensures, c.after.ensures) (fun_ext λ b. ap (λ (t : Bool). t && not (has s.row b)) (and_comm (has s.inside b) (ltb s.a b)))
