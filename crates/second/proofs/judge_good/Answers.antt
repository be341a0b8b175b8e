-- `judge_good`: the sheet, then the judge on the store's own numbers. Assumes nothing.
use native.Mathlib.Omega.{arith}
use borrow.Author.Rules.{rules}
use Rattle.std.proofs.Common.{◌∙◌, length-take-le}
use Rattle.model.specs.Limits.{store_length}
use Rattle.lists.proofs.Laws.Taken.{counted_sized}
use Rattle.second.specs.Laws.Settled.{small_acts, list_settles}
use Rattle.second.proofs.judge_good.Goals as goal

pub sheet_of-sheet-requires : goal.sheet_of-sheet-requires
sheet_of-sheet-requires c = let e = c.requires.0 in ((counted_sized _ _ _ _ _ _ _ _ e).few_actions, small_acts _ _ _ _ _ _ _ _ e)

pub slice_bounds-judge_sheet-end : goal.slice_bounds-judge_sheet-end
slice_bounds-judge_sheet-end c = (counted_sized _ _ _ _ _ _ _ _ c.requires.0).store_room

pub slice_bounds-judge_sheet-end-2 : goal.slice_bounds-judge_sheet-end-2
slice_bounds-judge_sheet-end-2 c = let room = (counted_sized _ _ _ _ _ _ _ _ c.requires.0).store_room in search rules

pub judge_sheet-requires : goal.judge_sheet-requires
judge_sheet-requires c =
    let h = c.requires in
    let g = counted_sized _ _ _ _ _ _ _ _ h.0 in
    let room = g.store_room in
    (g.few_actions, omega (arith, g.few_actions, h.1), search rules, (_, _, c.sheet_of-sheet.ensures))

pub returns : goal.returns
returns c =
    let room = (counted_sized _ _ _ _ _ _ _ _ c.requires.0).store_room in
    list_settles _ _ _ _ _ _ _ _ c.requires.0 (λ i. (c.slice_known-1.given i).fits) _ _ _ _
    (λ i. (c.type_inv.store i).fits) (c.judge_sheet.auto.store ∙ length-take-le store_length c.args.store.now room)
    (c.judge_sheet.ensures _ _ c.sheet_of-sheet.ensures)
