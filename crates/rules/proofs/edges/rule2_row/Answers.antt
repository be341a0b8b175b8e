use Rattle.rows.specs.Numbers.{has, held}
use Rattle.model.specs.Model.{rule2}
use Rattle.rules.specs.Laws.Reads.{one_row}
use Rattle.rules.proofs.edges.rule2_row.Goals as goal

pub returns : goal.returns
returns c =
    let s = c.args in
    let bad = c.rule2_bad in
    λ h l. one_row s.desk.now.n (held s.desk.now.book.now) (rule2 s.desk.now.n (held s.desk.now.book.now)) (has bad.result) (has c.one_row.result) s.a (bad.ensures h) c.one_row.ensures
