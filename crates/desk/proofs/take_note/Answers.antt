use Rattle.rows.proofs.Laws.Parts.{held_lent}
use Rattle.rows.specs.Numbers.{area}
use borrow.Rule.Slice.PartMut.{mid_len}
use lib.ListN.{length}
use native.Mathlib.Omega.{arith}
use mathlib.Core.Path.{◌≡◌, ◌∙◌}
use Prim.Native.Nat.{◌+◌, ◌*◌}
use Rattle.desk.proofs.take_note.Goals as goal

pub returns : goal.returns
returns c =
    let a = c.args in
    let part = c.fill_note in
    let fits = c.requires.0 in
    let long : length part.new.part ≡ area = omega (arith, part.auto.part, mid_len (area * a.j) (area * a.j + area) a.e.now fits) in
    λ i. held_lent a.j a.e.now part.new.part fits long i ∙ rw part.ensures
