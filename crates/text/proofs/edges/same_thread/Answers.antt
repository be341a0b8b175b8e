use borrow.Author.Rules.{rules}
use Rattle.text.specs.Parts.{same_thread}
use Rattle.text.proofs.edges.same_thread.Goals as goal

pub returns : goal.returns
returns c = c.select.ensures (same_thread c.args.list c.args.a) (λ b r l told. search rules)
