use Rattle.std.proofs.Common.{◌∙◌, rules, arith, lt-ltb}
use Rattle.model.specs.Limits.{given_relations}
use Rattle.judge.specs.Laws.Judging.{good_settled}
use Rattle.judge.proofs.judge_front.Goals as goal

pub judge_sheet-requires : goal.judge_sheet-requires
judge_sheet-requires c =
    let few = c.head-head.ensures.heads.actions in
    (few, omega (arith, few, c.requires.1), search rules, (_, _, rw (← c.head-head.ensures.value) at c.sheet_of-sheet.ensures))

pub returns : goal.returns
returns c =
    let d = c.args.drawing in
    let h = d.head in
    let head = c.head-head.ensures.value in
    let judged = c.judge_sheet.ensures _ _ (rw (← head) at c.sheet_of-sheet.ensures) in
    good_settled d.file.now h.edition h.n h.t h.p d.good _ (λ k l. c.fill.ensures k ∙ rw (lt-ltb k given_relations l)) _ _ _ _
    (λ i. (c.slice_known-4-1.given i).fits) (search rules) (rw head at judged)
