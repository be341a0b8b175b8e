-- An action that isn't refused is within the limits, and leads where a trace does.
use Rattle.std.proofs.Common.{sym, ◌∙◌}
use Rattle.machine.specs.Laws.Reaching.{act_within}
use Rattle.machine.proofs.steps.act.Goals as goal

pub perform-requires : goal.perform-requires
perform-requires c = act_within c.args.m _ _ _ _ (sym c.refuse.ensures ∙ c.in_ok-refuse.was)
