use borrow.Author.Rules.{rules}
use Rattle.inspector.proofs.bare_reads.Goals as goal

pub returns : goal.returns
returns c = c.select.ensures _ (λ b r l told. search rules)
