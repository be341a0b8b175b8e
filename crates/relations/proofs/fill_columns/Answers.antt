use Rattle.std.proofs.Common.{rules, ◌∙◌}
use Rattle.rows.specs.Numbers.{held}
use Rattle.rows.specs.Sets.{both, before, converse}
use Rattle.model.specs.Model.{read, at_atomic, vsse}
use Rattle.desk.specs.Laws.Fill.{covered_rows}
use Rattle.relations.specs.Laws.Seen.{vsse_columns}
use Rattle.relations.proofs.fill_columns.Goals as goal

pub returns : goal.returns
returns c =
    let n = c.args.desk.now.n in
    let ρ = held c.args.desk.now.book.now in
    let q = converse (vsse n ρ) in
    c.fill.ensures (λ b. before (q b) n) (λ b row m h. search rules)
    ∙ rw (c.before-2.ensures, c.and-reads.ensures, c.row-2.ensures, c.row.ensures) (covered_rows n q (both (read n ρ) (at_atomic n ρ)) (vsse_columns n ρ))
