-- `edges::row_begins`: what was written to the array is the whole word and number.
use Rattle.std.proofs.Common.{◌≡◌, ◌≤◌, ◌∙◌, ◌∷◌, ◌++◌, length, arith}
use Rattle.page.specs.Lines.{space, decimal}
use Rattle.page.specs.Pens.{penned}
use Rattle.page.specs.Laws.Measured.{written_front}
use Rattle.page.specs.Laws.Pens.{penned_then}
use Rattle.spelling.specs.Spelling.{relation_word}
use Rattle.spelling.proofs.Laws.Lengths.{lead_short}
use Rattle.spelling.proofs.edges.row_begins.Goals as goal

pub returns : goal.returns
returns c =
    let a = c.args in
    let text = relation_word a.k ++ (space ∷ decimal a.a) in
    let short : length text ≤ 24 = lead_short a.k a.a (omega arith) in
    let lead : c.put_next.new.self ≡ penned c.new-pen.result text = c.put_next.ensures ∙ rw (c.put_relation.ensures) (penned_then c.new-pen.result (relation_word a.k) (space ∷ decimal a.a)) in
    rw (c.written.ensures ∙ written_front c.new-pen.ensures lead short (omega arith)) at c.stands.ensures
