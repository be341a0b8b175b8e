use Prim.Native.Nat.{◌+◌, ◌*◌, ◌≤◌}
use mathlib.Core.Path.{◌≡◌, refl, ap, ◌∙◌}
use native.Mathlib.Omega.{arith}
use lib.ListN.{length}
use borrow.Author.Rules.{rules}
use Rattle.rows.specs.Numbers.{area, held}
use Rattle.model.specs.Model.{Book}
use Rattle.model.specs.Laws.Entered.{entering_none, entering_more, entering_done, kept_none, kept_more, enter_off}
use Rattle.slow.specs.Laws.Filling.{sequences}
use Rattle.slow.proofs.fill.derive.Goals as goal

pub loop-k-init : goal.loop-k-init
loop-k-init c =
    let s = c.args in
    (refl, (refl, (entering_none s.n (held s.t.now), kept_none (held s.t.now) (held s.store.now))))

pub derive_one-requires : goal.derive_one-requires
derive_one-requires c =
    let l = c.loop-k in
    let h = l.invariant.1.1.0 in
    let store-fits : area * l.k + area ≤ length l.store = omega (arith, l.invariant.0, c.requires.0) in
    let t-fits : area * l.k + area ≤ length l.t = omega (arith, l.invariant.1.0, c.requires.1) in
    (store-fits, t-fits, c.requires.2, h.low, sequences c.args.n (held c.args.t.now) (held l.t) l.k h)

pub loop-k-preserved : goal.loop-k-preserved
loop-k-preserved c =
    let l = c.loop-k in
    let s = c.args in
    let one = c.derive_one.ensures in
    let h = l.invariant.1.1.0 in (
      search rules,
      (
        search rules,
        (
          entering_more s.n (held s.t.now) (held l.t) _ l.k (omega arith) one.t_after h,
          kept_more (held l.t) _ (held s.store.now) (held l.store) _ l.k h.low (λ j ne. ap (λ (ρ : Book). ρ j) one.t_after ∙ enter_off s.n l.k _ (held l.t) j ne) one.by_index l.invariant.1.1.1,
        ),
      ),
    )

pub returns : goal.returns
returns c =
    let l = c.loop-k in
    let s = c.args in
    let h = l.invariant.1.1.0 in
    let high = h.high in
    let end : l.k ≡ 18 = omega arith in
    record { t_after = entering_done s.n (held s.t.now) (held l.t) l.k (omega arith) h; by_index = rw end at l.invariant.1.1.1 }
