use Prim.Native.Nat.{◌+◌, ◌*◌}
use mathlib.Core.Path.{◌≡◌, refl, ◌∙◌, fun_ext}
use native.Mathlib.Omega.{arith}
use lib.ListN.{length}
use borrow.Author.Tests.{eq-eqb}
use borrow.Rule.Slice.PartMut.{mid_len}
use Rattle.rows.specs.Numbers.{area}
use Rattle.rows.proofs.Laws.Parts.{held_lent}
use Rattle.slow.proofs.fill.derive_one.Goals as goal

pub returns : goal.returns
returns c =
    let s = c.args in
    let part = c.fill in
    let fits = c.requires.0 in
    let long : length part.new.part ≡ area = omega (arith, part.auto.part, mid_len (area * s.k) (area * s.k + area) s.store.now fits) in
    let lent = held_lent s.k s.store.now part.new.part fits long in
    let taken = c.take.ensures in
    let here = eq-eqb s.k s.k refl in
    record { t_after = fun_ext (λ j. taken j ∙ rw (lent s.k, here, part.ensures)); by_index = λ j. lent j ∙ rw (taken s.k, lent s.k, here) }
