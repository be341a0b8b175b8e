use Rattle.judge.specs.Laws.Judging.{settled_lent}
use Rattle.judge.proofs.judge_good.Goals as goal

pub returns : goal.returns
returns c = settled_lent _ c.args.store.now _ _ _ _ c.requires.0 c.judge_front.ensures
