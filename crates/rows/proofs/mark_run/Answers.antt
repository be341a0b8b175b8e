use Rattle.std.proofs.Common.{rules, lt-ltb}
use Rattle.rows.proofs.Laws.Loops.{gain_none}
use Rattle.rows.proofs.Laws.Parts.{ran_out}
use Rattle.rows.proofs.Laws.Turns.{turn_below, gain_turn, gain_end}
use Rattle.rows.specs.Numbers.{size, held}
use Rattle.rows.proofs.mark_run.Goals as goal

pub loop-a-init : goal.loop-a-init
loop-a-init c = rw c.into_iter-a-iterator.ensures.into_iter_gives (c.requires.0, gain_none size _ _ _ (ran_out c.args.these c.requires.0))

pub stored-requires : goal.stored-requires
stored-requires c = (turn_below c.in-Some.ensures.steps, search rules)

pub put-requires : goal.put-requires
put-requires c = (turn_below c.in-Some.ensures.steps, search rules)

pub loop-a-preserved : goal.loop-a-preserved
loop-a-preserved c =
    let l = c.loop-a in
    (search rules, gain_turn c.in-Some.ensures.steps _ _ _ (held l.part 0) (held c.put.new.d 0) l.invariant.1 (rw (c.with.ensures, c.stored.ensures, lt-ltb _ size c.requires.1) at (c.put.ensures 0)))

pub returns : goal.returns
returns c = gain_end _ _ _ _ _ c.in-None.ensures.steps.0 c.loop-a.invariant.1
