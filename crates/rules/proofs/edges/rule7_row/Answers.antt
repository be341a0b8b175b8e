use Rattle.rows.specs.Numbers.{held}
use Rattle.rules.specs.Laws.Edges.{rule7_by}
use Rattle.rules.proofs.edges.rule7_row.Goals as goal

pub returns : goal.returns
returns c =
    let s = c.args in
    λ h l. rw (
      c.one_row.ensures,
      c.minus.ensures,
      c.join_in-locked.ensures,
      c.only_if-locks.ensures,
      c.contains.ensures,
      c.row.ensures,
      c.row-unlocks.ensures,
    ) (rule7_by s.desk.now.n (held s.desk.now.book.now) s.a (held s.desk.now.notes.now) h l)
