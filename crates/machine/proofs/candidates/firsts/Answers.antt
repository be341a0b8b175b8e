use borrow.Author.Rules.{rules}
use Rattle.machine.specs.Code.{state_of}
use Rattle.machine.proofs.candidates.firsts.Goals as goal

pub returns : goal.returns
unfolding state_of
returns c = c.select.ensures _ (λ b r l h. search rules)
