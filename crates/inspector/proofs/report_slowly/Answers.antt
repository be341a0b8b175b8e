use Rattle.std.proofs.Common.{rules, le-leb}
use Rattle.drawing.proofs.Laws.Good.{read_good}
use Rattle.report.proofs.Laws.Lengths.{offered_roomy}
use Rattle.judge.specs.Laws.Judging.{good_text, good_length, refused_short}
use Rattle.inspector.proofs.report_slowly.Goals as goal

pub judge_good-seen-requires : goal.judge_good-seen-requires
judge_good-seen-requires c =
    let h = c.in-Ok.drawing.head in
    let lent = read_good _ _ _ h.edition h.n h.t h.p c.in-Ok.ensures.1 in
    (lent.1, lent.2)

pub returns-in-Err-clause-roomy : goal.returns-in-Err-clause-roomy
returns-in-Err-clause-roomy c = offered_roomy c.refused.ensures (refused_short _ (search rules))

pub returns-in-Ok : goal.returns-in-Ok
returns-in-Ok c =
    let d = c.in-Ok.drawing in
    let head = d.head in
    let (same, read) = c.in-Ok.ensures in
    let good = rw same at d.good in
    let h = rw same at c.judge_good-seen.ensures in
    let text = good_text _ head.edition head.n head.t head.p good _ _ _ _ _ h in
    let told = rw (le-leb _ _ c.head.ensures.heads.actions, c.head.ensures.value, text) at c.judged.ensures in
    rw read (record {
      offered = told;
      roomy = offered_roomy told (good_length _ head.edition head.n head.t head.p good);
      store_after = h.store;
      order_after = h.order;
    })
