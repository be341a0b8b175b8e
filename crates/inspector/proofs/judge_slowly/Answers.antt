use Rattle.std.proofs.Common.{ap, Ok}
use Rattle.model.specs.Judge.{judged_of}
use Rattle.drawing.proofs.Laws.Good.{read_good}
use Rattle.judge.specs.Laws.Demands.{kept_all}
use Rattle.inspector.proofs.judge_slowly.Goals as goal

pub judge_good-requires : goal.judge_good-requires
judge_good-requires c =
    let h = c.in_ok-drawing.drawing.head in
    let lent = read_good _ _ _ h.edition h.n h.t h.p c.in_ok-drawing.ensures.1 in
    (lent.1, lent.2)

pub returns : goal.returns
unfolding judged_of
returns c =
    let (same, read) = c.in_ok-drawing.ensures in
    let h = rw same at c.judge_good.ensures in
    let k = kept_all _ _ _ _ _ _ read (ap Ok h.ruled.judged) h.store h.order in
    record { value = k.0; store_after = k.1.0; order_after = k.1.1.0; demands = k.1.1.1 }
