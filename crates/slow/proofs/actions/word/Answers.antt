use Rattle.model.specs.Words.{word}
use Rattle.slow.proofs.actions.word.Goals as goal

pub returns-in-2 : goal.returns-in-2
unfolding word
returns-in-2 c = rw (c.in-2.is, c.is_atomic.ensures)
