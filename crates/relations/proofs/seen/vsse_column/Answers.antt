use Rattle.std.proofs.Common.{◌∙◌}
use Rattle.rows.proofs.Laws.Turns.{gather_turn, gather_end}
use Rattle.rows.specs.Numbers.{held}
use Rattle.desk.specs.Reading.{on}
use Rattle.relations.specs.Laws.Seen.{vsse_by}
use Rattle.relations.specs.Bases.{visible}
use Rattle.relations.proofs.seen.vsse_column.Goals as goal

pub loop-v-preserved : goal.loop-v-preserved
loop-v-preserved c = rw (c.or-all.ensures, c.visible_row.ensures) (gather_turn c.in-Some.ensures.steps _ _ (on c.args.desk.now visible c.args.b) c.loop-v.invariant)

pub returns : goal.returns
returns c =
    let a = c.args in
    λ low turned here.
    gather_end _ _ _ (on a.desk.now visible a.b) c.in-None.ensures.steps.0 c.loop-v.invariant
    ∙ rw turned (vsse_by a.desk.now.n (held a.desk.now.book.now) a.b a.desk.now.few low here)
