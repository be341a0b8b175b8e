use Rattle.std.proofs.Common.{rules}
use Rattle.rows.proofs.Laws.Turns.{turn_below, gather_turn, gather_end}
use Rattle.rows.proofs.gather_run.Goals as goal

pub step-requires : goal.step-requires
step-requires g c = c.requires.callable _ (turn_below c.in-Some.ensures.steps)

pub loop-a-preserved : goal.loop-a-preserved
loop-a-preserved g c =
    let h = c.in-Some.ensures.steps in
    (search rules, λ r post. rw (c.or-all.ensures, post _ _ (turn_below h) c.step.ensures) (gather_turn h _ _ r (c.loop-a.invariant.1 r post)))

pub returns : goal.returns
returns g c = λ r post. gather_end _ _ _ r c.in-None.ensures.steps.0 (c.loop-a.invariant.1 r post)
