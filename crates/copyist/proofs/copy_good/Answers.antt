-- `copy_good`: what the writer answers to the candidate is the file. Assumes nothing.
use Rattle.std.proofs.Common.{sym, ◌∙◌, rules, lt-ltb}
use Rattle.model.specs.Limits.{given_relations}
use Rattle.drawing.proofs.Laws.Opened.{opened_actions, opened_places, opened_filled}
use Rattle.lists.proofs.Laws.Handed.{file_handed}
use Rattle.copyist.specs.Laws.Copying.{copy_saved}
use Rattle.copyist.proofs.copy_good.Goals as goal

pub returns : goal.returns
returns c =
    let d = c.args.drawing in
    let h = d.head in
    let list = c.actions-list.ensures ∙ sym (opened_actions _ _ d.good) in
    let places = c.places-places.ensures ∙ sym (opened_places _ _ d.good) in
    copy_saved _ h.edition h.n h.t h.p d.bytes d.good _
    (file_handed _ h.edition h.n h.t h.p d.good _ (λ i. (c.slice_known-3-1.given i).fits) (search rules) (λ k l. opened_filled _ _ d.good _ _ c.fill.ensures k ∙ rw (lt-ltb k given_relations l))) _ _ _
    (rw (list, places, c.head-head.ensures.value) at c.save_first.ensures)
