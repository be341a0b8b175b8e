use Rattle.std.proofs.Common.{rules, ◌∙◌}
use Rattle.rows.proofs.Laws.Loops.{place_none, place_done, placed_never}
use Rattle.rows.proofs.Laws.Parts.{has_out}
use Rattle.rows.proofs.Laws.Turns.{turn_below, turn_member, place_turn}
use Rattle.rows.specs.Numbers.{size, has, held}
use Rattle.rows.specs.Sets.{never}
use Rattle.rows.proofs.fill.Goals as goal

pub loop-a-init : goal.loop-a-init
loop-a-init g c = rw (c.into_iter-a-iterator.ensures.into_iter_gives, c.clear.ensures) λ r post. place_none size r (has c.args.these) never (has_out c.args.these)

pub row-requires : goal.row-requires
row-requires g c = c.requires.callable _ (turn_below c.in-Some.ensures.steps)

pub put-requires : goal.put-requires
put-requires g c = (turn_below c.in-Some.ensures.steps, search rules)

pub loop-a-preserved : goal.loop-a-preserved
loop-a-preserved g c = λ r post.
    let l = c.loop-a in
    let h = c.in-Some.ensures.steps in
    let so_far = l.invariant r post in
    place_turn h r _ _ (held l.part 0) (held c.put.new.d 0) so_far (rw (post _ _ (so_far.members _ (turn_member h)) c.row.ensures) at (c.put.ensures 0))

pub returns : goal.returns
returns g c = λ r post. place_done size r _ _ _ _ (c.loop-a.invariant r post) c.in-None.ensures.steps.0 ∙ placed_never r (has c.args.these)
