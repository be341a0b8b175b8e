use Rattle.rules.specs.Laws.Suspects.{covers_overtaken}
use Rattle.rows.specs.Numbers.{has, held}
use Rattle.rules.proofs.reads.overtaken_suspects.Goals as goal

pub returns : goal.returns
returns c =
    let s = c.args in
    λ k h. rw (
      c.sources.ensures,
      c.and.ensures,
      c.row.ensures,
      c.join_in-reached.ensures,
    ) (covers_overtaken s.desk.now.n (held s.desk.now.book.now) (held s.desk.now.notes.now) h s.k k (has s.writes))
