use Rattle.std.proofs.Common.{not, ap, sym, ◌∙◌}
use Rattle.rows.proofs.Laws.Parts.{held_out, held_untold}
use Rattle.rows.proofs.load.Goals.{then-a-ge-SIZE-via-then-a-ge-SIZE, then-a-ge-SIZE-via-else-a-ge-SIZE+then-not-has_part}
use Rattle.rows.proofs.load.Goals as goal

pub returns-then-a-ge-SIZE : goal.returns-then-a-ge-SIZE
returns-then-a-ge-SIZE c =
    let a = c.args in
    elim c.then-a-ge-SIZE.branch [
      | then-a-ge-SIZE-via-then-a-ge-SIZE w ↦ c.empty.ensures ∙ sym (held_out a.d.now a.k a.a w.if-a-ge-SIZE.true)
      | then-a-ge-SIZE-via-else-a-ge-SIZE+then-not-has_part w ↦ rw (held_untold a.d.now a.k w.has_part.ensures (ap not w.if-not-has_part.true)) c.empty.ensures
    ]
