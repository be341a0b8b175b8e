use Rattle.std.proofs.Common.{◌∙◌}
use Rattle.rows.proofs.Laws.Parts.{held_lent, held_part, part_length}
use Rattle.table.proofs.take.Goals as goal

pub returns : goal.returns
returns c =
    let a = c.args in
    let e = c.copy_from_slice.ensures.after in
    λ j. held_lent a.k a.t.now _ c.requires.1 (rw e (part_length a.k a.store.now c.requires.0)) j ∙ rw (e, held_part a.k a.store.now c.requires.0)
