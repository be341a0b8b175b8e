use Rattle.model.specs.Model.{rule12}
use Rattle.rules.proofs.edges.rule12_row.Goals as goal

pub returns : goal.returns
unfolding rule12
returns c = λ h l. rw c.unordered_row.ensures
