use Rattle.relations.specs.Laws.Derive.{derived_none, derived_more, kept_none, kept_more, enter_off}
use Rattle.model.specs.Model.{Book}
use Rattle.rows.specs.Numbers.{held}
use native.Mathlib.Omega.{arith}
use mathlib.Core.Path.{ap, ◌∙◌}
use Rattle.relations.proofs.derive.Goals as goal

pub loop-k-init : goal.loop-k-init
loop-k-init c =
    let a = c.args in
    (derived_none a.n (held a.d.now) (held a.e.now) c.requires.3, kept_none (held a.d.now) (held a.store.now))

pub loop-k-preserved : goal.loop-k-preserved
loop-k-preserved c =
    let l = c.loop-k in
    let a = c.args in
    let one = c.derive_one.ensures in
    let h = l.invariant.0 in (
      derived_more a.n (held a.d.now) (held l.d) _ (held a.e.now) l.k (omega arith) one.d_after h,
      kept_more (held l.d) _ (held a.store.now) (held l.store) _ l.k h.low (λ j ne. ap (λ (ρ : Book). ρ j) one.d_after ∙ enter_off a.n l.k _ (held l.d) j ne) one.by_index l.invariant.1,
    )
