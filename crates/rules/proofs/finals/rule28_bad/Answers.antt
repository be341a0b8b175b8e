use Rattle.desk.specs.Laws.Notes.{noted_size}
use Rattle.rules.specs.Laws.Finals.{rule28_by}
use Rattle.rules.proofs.finals.rule28_bad.Goals as goal

pub returns : goal.returns
returns c = λ h. rw (c.and.ensures, c.differ_row.ensures, c.join-seen.ensures, c.full-2.ensures, c.join-fed.ensures, c.full.ensures, c.or-loads.ensures, c.row-3.ensures, c.and-plain.ensures, c.row-2.ensures, c.row.ensures) (rule28_by _ _ (noted_size _ _ _ h))
