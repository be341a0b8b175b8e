use Rattle.std.proofs.Common.{rules, ◌∙◌, ◌-◌, get_or}
use Rattle.rows.specs.Numbers.{has, held}
use Rattle.rows.specs.Sets.{never, before}
use Rattle.desk.specs.Laws.Fill.{covered_rows}
use Rattle.relations.specs.Bases.{bases}
use Rattle.relations.proofs.fill_rows.Goals as goal

pub returns : goal.returns
returns c =
    let a = c.args in
    let q = get_or (bases a.desk.now.n (held a.desk.now.book.now)) (a.k - 7) never in
    let covers = c.filled_rows.ensures c.requires.1 in
    c.fill.ensures (λ x. before (q x) a.desk.now.n) (λ x row m h. search rules)
    ∙ rw c.before-2.ensures (covered_rows a.desk.now.n q (has c.filled_rows.result) covers)
