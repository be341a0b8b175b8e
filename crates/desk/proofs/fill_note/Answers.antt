use Rattle.desk.specs.Notes.{notes}
use Rattle.desk.proofs.fill_note.Goals as goal

pub returns-then-j-eq-FED : goal.returns-then-j-eq-FED
unfolding notes
returns-then-j-eq-FED c = rw c.if-j-eq-FED.true c.transpose.ensures
