use Rattle.model.specs.Model.{rule20}
use Rattle.desk.specs.Laws.Notes.{noted_size}
use Rattle.rules.proofs.reads.rule20_bad.Goals as goal

pub returns : goal.returns
unfolding rule20
returns c = λ h. rw (c.unfed.ensures (noted_size _ _ _ h), c.and-reads.ensures, c.row-2.ensures, c.row.ensures)
