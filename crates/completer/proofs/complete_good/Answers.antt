-- `complete_good`: what the finder answers to the candidate, and the writer to what was found, is the completion of the file. Assumes nothing.
use mathlib.Core.Path.{◌≡◌, sym, ap, ◌∙◌}
use borrow.Author.Rules.{rules}
use Rattle.std.specs.Prelude.{Ok, Err}
use Rattle.completer.specs.Laws.Completing.{complete_refused, complete_sought, open_find, open_saved, made_by}
use Rattle.completer.proofs.complete_good.Goals as goal

pub returns-in_err-outcome : goal.returns-in_err-outcome
returns-in_err-outcome c =
    let d = c.args.drawing in
    let kept =
    open_find d.file.now d.head d.bytes d.good _ _ _ c.actions-list.ensures c.places-places.ensures c.head-head.ensures.value c.fill.new.store (λ i. (c.slice_known-3-1.given i).fits) (search rules) _ c.fill.ensures _ _ _ c.find_first.ensures in
    let refused : c.from_residual.result ≡ Err c.in_err-outcome.field-0.0 = search rules in
    let told = complete_refused _ _ _ _ _ _ kept _ _ c.in_err-outcome.was _ _ in
    record { value = refused ∙ told.0; out_after = told.1 }

pub returns-in-None : goal.returns-in-None
returns-in-None c =
    let d = c.args.drawing in
    let kept =
    open_find d.file.now d.head d.bytes d.good _ _ _ c.actions-list.ensures c.places-places.ensures c.head-head.ensures.value c.fill.new.store (λ i. (c.slice_known-3-1.given i).fits) (search rules) _ c.fill.ensures _ _ _ c.find_first.ensures in
    let told = complete_sought _ _ _ _ _ _ kept _ (c.in_ok-outcome.was ∙ ap Ok c.in-None.is) _ _ in
    record { value = told.0; out_after = told.1 }

pub returns-in-Undecided : goal.returns-in-Undecided
returns-in-Undecided c =
    let d = c.args.drawing in
    let kept =
    open_find d.file.now d.head d.bytes d.good _ _ _ c.actions-list.ensures c.places-places.ensures c.head-head.ensures.value c.fill.new.store (λ i. (c.slice_known-3-1.given i).fits) (search rules) _ c.fill.ensures _ _ _ c.find_first.ensures in
    let told = complete_sought _ _ _ _ _ _ kept _ (c.in_ok-outcome.was ∙ ap Ok c.in-Undecided.is) _ _ in
    record { value = told.0; out_after = told.1 }

pub returns-in_err-length-in-Found : goal.returns-in_err-length-in-Found
returns-in_err-length-in-Found c =
    let d = c.args.drawing in
    let kept =
    open_find d.file.now d.head d.bytes d.good _ _ _ c.actions-list.ensures c.places-places.ensures c.head-head.ensures.value c.fill.new.store (λ i. (c.slice_known-3-1.given i).fits) (search rules) _ c.fill.ensures _ _ _ c.find_first.ensures in
    let refused : c.from_residual-in_err-length-in-Found.result ≡ Err c.in_err-length-in-Found.field-0.0 = search rules in
    let told =
    open_saved d.file.now d.head d.bytes d.good _ _ _ c.actions-list.ensures c.places-places.ensures c.head-head.ensures.value _ _ _ _ kept _ (c.in_ok-outcome.was ∙ ap Ok c.in-Found.is) (λ i. (c.slice_known-4-1.given i).fits) _ _ _ c.save_first.ensures in
    record { value = refused ∙ sym (ap (made_by _) c.in_err-length-in-Found.was) ∙ told.0; out_after = told.1 }

pub returns-in_ok-length-in-Found : goal.returns-in_ok-length-in-Found
returns-in_ok-length-in-Found c =
    let d = c.args.drawing in
    let kept =
    open_find d.file.now d.head d.bytes d.good _ _ _ c.actions-list.ensures c.places-places.ensures c.head-head.ensures.value c.fill.new.store (λ i. (c.slice_known-3-1.given i).fits) (search rules) _ c.fill.ensures _ _ _ c.find_first.ensures in
    let told =
    open_saved d.file.now d.head d.bytes d.good _ _ _ c.actions-list.ensures c.places-places.ensures c.head-head.ensures.value _ _ _ _ kept _ (c.in_ok-outcome.was ∙ ap Ok c.in-Found.is) (λ i. (c.slice_known-4-1.given i).fits) _ _ _ c.save_first.ensures in
    record { value = sym (ap (made_by _) c.in_ok-length-in-Found.was) ∙ told.0; out_after = told.1 }
