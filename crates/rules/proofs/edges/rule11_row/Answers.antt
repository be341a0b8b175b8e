use Rattle.model.specs.Model.{rule11}
use Rattle.rules.proofs.edges.rule11_row.Goals as goal

pub returns : goal.returns
unfolding rule11
returns c = λ h l. rw c.unordered_row.ensures
