use Rattle.rows.specs.Numbers.{held}
use Rattle.rules.specs.Laws.Edges.{rule8_by}
use Rattle.rules.proofs.edges.rule8_row.Goals as goal

pub returns : goal.returns
returns c =
    let s = c.args in
    λ h l. rw (
      c.only_if.ensures,
      c.and.ensures,
      c.row-2.ensures,
      c.note.ensures,
      c.contains-unlocks.ensures,
      c.row.ensures,
    ) (rule8_by s.desk.now.n (held s.desk.now.book.now) s.a (held s.desk.now.notes.now) h l)
