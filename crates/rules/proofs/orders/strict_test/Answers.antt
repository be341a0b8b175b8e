use Rattle.rules.specs.Laws.Orders.{row_found}
use Rattle.rules.specs.Promises.{relation}
use Rattle.model.specs.Model.{strict}
use mathlib.Core.Path.{refl}
use Rattle.rules.proofs.orders.strict_test.Goals as goal

pub returns : goal.returns
returns c = let s = c.args in
    λ n ρ e f. row_found n ρ (relation ρ s.t) s.a (strict n ρ (relation ρ s.t) s.a) _ e refl (rw (c.or.ensures, c.minus.ensures, c.at.ensures, f, e))
