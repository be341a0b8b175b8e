use Rattle.rows.proofs.Laws.Parts.{held_lent}
use Rattle.rows.specs.Numbers.{area}
use borrow.Rule.Slice.PartMut.{mid_len}
use borrow.Author.Tests.{eq-eqb}
use lib.ListN.{length}
use native.Mathlib.Omega.{arith}
use mathlib.Core.Path.{◌≡◌, refl, ◌∙◌, fun_ext}
use Prim.Native.Nat.{◌+◌, ◌*◌}
use Rattle.relations.proofs.derive_one.Goals as goal

pub returns : goal.returns
returns c =
    let a = c.args in
    let part = c.fill in
    let fits = c.requires.0 in
    let long : length part.new.part ≡ area = omega (arith, part.auto.part, mid_len (area * a.k) (area * a.k + area) a.store.now fits) in
    let lent = held_lent a.k a.store.now part.new.part fits long in
    let copied = c.copy.ensures in
    let here = eq-eqb a.k a.k refl in
    record { d_after = fun_ext (λ j. copied j ∙ rw (lent a.k, here, part.ensures)); by_index = λ j. lent j ∙ rw (copied a.k, lent a.k, here) }
