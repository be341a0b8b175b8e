use Rattle.rules.specs.Laws.Finals.{rule33_by}
use Rattle.rules.proofs.finals.rule33_row.Goals as goal

pub returns : goal.returns
returns c = λ settled h l. rw (c.and.ensures, c.earlier_row.ensures settled l, c.row.ensures) (rule33_by _ _ _)
