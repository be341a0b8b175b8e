use Rattle.std.proofs.Common.{ℕ, List, ◌∙◌, cond, [], sym, ap}
use Rattle.rows.specs.Numbers.{size, held, joined}
use Rattle.rows.specs.Laws.Lists.{joined_one}
use Rattle.page.specs.Laws.Members.{row_is}
use Rattle.page.specs.Laws.Pens.{penned_then}
use Rattle.page.specs.Pens.{penned}
use Rattle.spelling.specs.Spelling.{edge_line}
use Rattle.translator.proofs.writing.relation_edges.Goals as goal

pub loop-a-preserved : goal.loop-a-preserved
loop-a-preserved c =
    let l = c.loop-a in
    let a = c.args in
    let edges : ℕ → List ℕ = λ i. joined a.n λ b. cond (held a.store.now a.k i b) (edge_line a.k i b) [] in
    let row = rw (c.before-in-loop-a.ensures, c.load.ensures, row_is (edge_line a.k l.a) (held a.store.now a.k l.a) a.n size c.requires.0) at c.row_edges.ensures in
    row ∙ rw l.invariant (penned_then a.pen.now (joined l.a edges) (edges l.a)) ∙ sym (ap (penned a.pen.now) (joined_one l.a edges))
