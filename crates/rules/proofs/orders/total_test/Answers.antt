use Rattle.rules.specs.Laws.Orders.{row_found, total_by}
use Rattle.rules.specs.Promises.{relation}
use Rattle.model.specs.Model.{total}
use Rattle.rows.specs.Numbers.{has, held}
use mathlib.Core.Path.{refl}
use Rattle.rules.proofs.orders.total_test.Goals as goal

pub returns : goal.returns
returns c = let s = c.args in
    let row = c.row_of-row in
    let unpaired = c.unpaired_row-unpaired in
    let strictly = c.strict_test-strict in
    let ρ = held s.d.now in
    let t = relation ρ s.t in
    λ small. row_found s.n ρ t s.a (total s.n ρ (λ _. has s.inside) t s.a) _ row.ensures refl
    (rw (c.or-2.ensures, c.or.ensures, c.minus.ensures)
    (total_by s.n ρ t s.a (has strictly.result.offences) (has s.inside) (has row.result) (has unpaired.result)
    (strictly.ensures s.n ρ row.ensures c.onward.ensures).offences
    row.ensures
    (rw c.apart_row.ensures at (unpaired.ensures s.n small))))
