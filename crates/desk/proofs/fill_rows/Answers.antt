use Rattle.std.proofs.Common.{rules, ◌∙◌, get_or, ltb}
use Rattle.rows.proofs.Laws.Covers.{covers_all}
use Rattle.rows.specs.Sets.{never, before}
use Rattle.rows.specs.Numbers.{size, held}
use Rattle.desk.specs.Laws.Fill.{covered_rows}
use Rattle.desk.specs.Notes.{notes}
use Rattle.desk.proofs.fill_rows.Goals as goal

pub returns : goal.returns
returns c =
    let a = c.args in
    let q = get_or (notes a.n (held a.d.now)) a.j never in
    c.fill.ensures (λ x. before (q x) a.n) (λ x row m h. search rules)
    ∙ rw (c.before-2.ensures, c.full.ensures) (covered_rows a.n q (λ b. ltb b size) (covers_all a.n q size c.requires.1))
