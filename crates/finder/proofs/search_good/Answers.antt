-- `search_good`: the sheet, then the search on the store's own numbers. Assumes nothing.
use native.Mathlib.Omega.{arith}
use borrow.Author.Rules.{rules}
use Rattle.std.proofs.Common.{◌∙◌, length-take-le}
use Rattle.model.specs.Limits.{store_length}
use Rattle.lists.proofs.Laws.Taken.{counted_sized}
use Rattle.second.specs.Laws.Settled.{small_acts}
use Rattle.finder.specs.Laws.Searching.{find_halved, list_searched}
use Rattle.finder.proofs.search_good.Goals as goal

pub sheet_of-sheet-requires : goal.sheet_of-sheet-requires
sheet_of-sheet-requires c =
    let e = (find_halved _ _ _ _ _ _ _ _ c.requires).counted in
    ((counted_sized _ _ _ _ _ _ _ _ e).few_actions, small_acts _ _ _ _ _ _ _ _ e)

pub slice_bounds-search_sheet-end : goal.slice_bounds-search_sheet-end
slice_bounds-search_sheet-end c = (counted_sized _ _ _ _ _ _ _ _ (find_halved _ _ _ _ _ _ _ _ c.requires).counted).store_room

pub slice_bounds-search_sheet-end-2 : goal.slice_bounds-search_sheet-end-2
slice_bounds-search_sheet-end-2 c = let room = (counted_sized _ _ _ _ _ _ _ _ (find_halved _ _ _ _ _ _ _ _ c.requires).counted).store_room in search rules

pub search_sheet-requires : goal.search_sheet-requires
search_sheet-requires c =
    let h = find_halved _ _ _ _ _ _ _ _ c.requires in
    let s = counted_sized _ _ _ _ _ _ _ _ h.counted in
    let room = s.store_room in
    (omega (arith, h.few, s.few_places), search rules, (_, _, c.sheet_of-sheet.ensures))

pub returns : goal.returns
returns c =
    let a = c.args in
    let h = find_halved _ _ _ _ _ _ _ _ c.requires in
    let room = (counted_sized _ _ _ _ _ _ _ _ h.counted).store_room in
    list_searched a.g _ _ _ _ _ _ h (λ i. (c.slice_known-1.given i).fits) _ _ a.budget _
    (λ i. (c.type_inv.store i).fits)
    (c.search_sheet.auto.store ∙ length-take-le store_length a.store.now room)
    c.sheet_of-sheet.ensures c.search_sheet.ensures
