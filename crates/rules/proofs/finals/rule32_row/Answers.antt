use Rattle.rows.specs.Numbers.{has}
use Rattle.desk.specs.Laws.Notes.{noted_size}
use Rattle.rules.specs.Laws.Finals.{rule32_by}
use Rattle.rules.proofs.finals.rule32_row.Goals as goal

pub returns : goal.returns
returns c =
    let half = c.rule23_row in
    λ h l. rw (c.or.ensures, c.and-stale.ensures, c.join_in.ensures, c.only_if-writes.ensures, c.is_empty.ensures, c.and-2.ensures, c.row-3.ensures, c.row-2.ensures, c.only_if-r.ensures, c.contains.ensures, c.and.ensures, c.row.ensures, c.row-strong.ensures) (rule32_by _ _ (noted_size _ _ _ h) _ (has half.result) (half.ensures h l))
