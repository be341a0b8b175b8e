use Prim.Native.Nat.{◌-◌}
use mathlib.Core.Path.{ap, ◌∙◌}
use native.Mathlib.Omega.{arith}
use lib.ListN.{get_or}
use Rattle.rows.specs.Numbers.{held}
use Rattle.rows.specs.Sets.{Rel, never, within, closure}
use Rattle.model.specs.Model.{derived, cad, ithb}
use Rattle.slow.specs.Searches.{steps}
use Rattle.slow.specs.Laws.Filling.{closed, step_is}
use Rattle.slow.proofs.fill.fill.Goals as goal
use Rattle.slow.proofs.fill.fill.Goals.{then-k-eq-CAD-via-then-k-eq-CAD, then-k-eq-CAD-via-else-k-eq-CAD+then-k-eq-ITHB}

pub returns-then-k-eq-CAD : goal.returns-then-k-eq-CAD
unfolding steps derived cad ithb
returns-then-k-eq-CAD c =
    let s = c.args in
    c.close.ensures
    ∙ ap (λ (q : Rel). within s.t.n (closure s.t.n q)) c.fill_steps.ensures
    ∙ closed s.t.n (get_or (steps s.t.n (held s.t.numbers.now)) (s.k - 7) never)
    ∙ elim c.then-k-eq-CAD.branch [ then-k-eq-CAD-via-then-k-eq-CAD w ↦ rw w.if-k-eq-CAD.true | then-k-eq-CAD-via-else-k-eq-CAD+then-k-eq-ITHB w ↦ rw w.if-k-eq-ITHB.true ]

pub returns : goal.returns
returns c =
    let s = c.args in
    let low = c.requires.1 in
    c.fill_steps-2.ensures
    ∙ step_is s.t.n (held s.t.numbers.now) (s.k - 7) (λ e. c.if-k-eq-CAD.false (omega arith)) (λ e. c.if-k-eq-ITHB.false (omega arith)) (λ l. c.requires.3 (omega arith))
