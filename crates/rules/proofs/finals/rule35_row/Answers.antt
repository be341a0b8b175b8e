use Rattle.desk.specs.Laws.Notes.{noted_size}
use Rattle.rules.specs.Laws.Finals.{rule35_by}
use Rattle.rules.proofs.finals.rule35_row.Goals as goal

pub returns : goal.returns
returns c = λ settled h l. rw (c.leading.ensures, c.earlier_row.ensures settled l, c.row.ensures) (rule35_by _ _ (noted_size _ _ _ h) _)
