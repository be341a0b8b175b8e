use Rattle.model.specs.Model.{rule29}
use Rattle.rules.proofs.finals.rule29_row.Goals as goal

pub returns : goal.returns
unfolding rule29
returns c = λ h l. rw (c.minus.ensures, c.row-3.ensures, c.and.ensures, c.row-2.ensures, c.row.ensures)
