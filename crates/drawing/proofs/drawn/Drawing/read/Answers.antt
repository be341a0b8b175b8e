use Rattle.std.proofs.Common.{sym, ◌∙◌}
use Rattle.drawing.proofs.Laws.Good.{read_good}
use Rattle.drawing.proofs.drawn.Drawing.read.Goals as goal

pub invariant_of-result : goal.invariant_of-result
invariant_of-result c =
    let h = c.in_ok-head.head in
    record {
      good = (read_good _ c.args.store c.args.order h.edition h.n h.t h.p (sym c.check.ensures ∙ c.in_ok-head.was)).0;
      bytes = λ i. (c.type_inv.file i).fits;
    }
