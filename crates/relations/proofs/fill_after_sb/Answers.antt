use Rattle.std.proofs.Common.{rules, ◌∙◌, ltb}
use Rattle.rows.proofs.Laws.Covers.{covers_all}
use Rattle.rows.specs.Numbers.{size, held}
use Rattle.rows.specs.Sets.{Rel, either, image, before}
use Rattle.model.specs.Model.{Sb}
use Rattle.desk.specs.Laws.Fill.{covered_rows}
use Rattle.relations.proofs.fill_after_sb.Goals as goal

pub returns : goal.returns
returns c =
    let a = c.args in
    let r = held a.part.now 0 in
    let q : Rel = λ x. either (r x) (image a.desk.now.n (Sb a.desk.now.n (held a.desk.now.book.now) x) r) in
    c.fill.ensures (λ x. before (q x) a.desk.now.n) (λ x row m h. search rules)
    ∙ rw (c.before-2.ensures, c.full.ensures) (covered_rows a.desk.now.n q (λ b. ltb b size) (covers_all a.desk.now.n q size a.desk.now.few))
