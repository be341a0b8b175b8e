use mathlib.Core.Path.{ap}
use Rattle.rows.specs.Sets.{Set, before}
use Rattle.rows.specs.Numbers.{held}
use Rattle.rules.specs.Laws.Edges.{rule13_by}
use Rattle.rules.proofs.edges.rule13_row.Goals as goal

pub returns : goal.returns
returns c =
    let s = c.args in
    λ h l. rw (c.minus.ensures, c.without.ensures, c.writes_of_row.ensures, c.row.ensures) (ap (λ (t : Set). before t s.desk.now.n) (rule13_by s.desk.now.n (held s.desk.now.book.now) s.a))
