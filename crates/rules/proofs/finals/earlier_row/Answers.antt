use Rattle.rules.specs.Laws.Finals.{earlier_by}
use Rattle.rules.proofs.finals.earlier_row.Goals as goal

pub returns : goal.returns
returns c = λ settled l. rw (c.before-2.ensures, c.minus.ensures, c.load.ensures, c.without.ensures, c.writes_of_row.ensures) (earlier_by _ _ settled _ l)
