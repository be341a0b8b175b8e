use borrow.Author.Rules.{rules}
use Rattle.machine.proofs.queues.there.Goals as goal

pub returns : goal.returns
returns c = c.select.ensures _ (λ b r l h. search rules)
