use Rattle.std.proofs.Common.{rules}
use Rattle.words.proofs.readers.Goals as goal

pub returns : goal.returns
returns c = c.select.ensures _ (λ b r l told. search rules)
