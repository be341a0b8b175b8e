use Prim.Native.Nat.{◌+◌, ◌*◌}
use mathlib.Core.Path.{◌≡◌, ◌∙◌}
use native.Mathlib.Omega.{arith}
use lib.ListN.{length}
use borrow.Rule.Slice.PartMut.{mid_len}
use Rattle.rows.specs.Numbers.{area}
use Rattle.rows.proofs.Laws.Parts.{held_lent}
use Rattle.words.proofs.clear_part.Goals as goal

pub returns : goal.returns
returns c =
    let a = c.args in
    let part = c.clear in
    let fits = c.requires in
    let long : length part.new.part ≡ area = omega (arith, part.auto.part, mid_len (area * a.k) (area * a.k + area) a.desk.now fits) in
    λ j. held_lent a.k a.desk.now part.new.part fits long j ∙ rw part.ensures
