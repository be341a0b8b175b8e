-- `file_of_begun`: what was read of the text is handed to the writer, whose answer is told. Assumes nothing.
use mathlib.Core.Path.{◌≡◌, sym, ap, ◌∙◌}
use native.Mathlib.Omega.{arith}
use lib.ListN.{length}
use lib.Seq.{length-take-le}
use borrow.Author.Rules.{rules}
use Rattle.std.specs.Prelude.{Err}
use Rattle.rows.specs.Laws.Lists.{listed_length}
use Rattle.text.specs.Texts.{lines_check, end_test}
use Rattle.translator.specs.Laws.Reading.{begun_few, end_left, text_handed}
use Rattle.translator.specs.Laws.Translating.{lines_refused, file_saved}
use Rattle.translator.proofs.file_of_begun.Goals as goal

pub places-places-requires : goal.places-places-requires
places-places-requires c =
    let x = c.args.start in
    let h = x.head in
    let few = begun_few c.args.text.now h.edition h.n h.t h.p x.places x.actions x.edges c.requires.0 in
    few.1

pub actions-list-requires : goal.actions-list-requires
actions-list-requires c =
    let x = c.args.start in
    let h = x.head in
    let few = begun_few c.args.text.now h.edition h.n h.t h.p x.places x.actions x.edges c.requires.0 in
    few.0

pub fill-end-requires : goal.fill-end-requires
fill-end-requires c =
    let x = c.args.start in
    let h = x.head in
    let few = begun_few c.args.text.now h.edition h.n h.t h.p x.places x.actions x.edges c.requires.0 in
    (few.0, omega (arith, c.requires.1))

pub slice_bounds-places-end : goal.slice_bounds-places-end
slice_bounds-places-end c =
    let x = c.args.start in
    let h = x.head in
    let few = begun_few c.args.text.now h.edition h.n h.t h.p x.places x.actions x.edges c.requires.0 in
    omega (arith, few, ap length c.places-places.ensures ∙ listed_length _ _)

pub slice_bounds-save_first-end : goal.slice_bounds-save_first-end
slice_bounds-save_first-end c =
    let x = c.args.start in
    let h = x.head in
    let few = begun_few c.args.text.now h.edition h.n h.t h.p x.places x.actions x.edges c.requires.0 in
    sym (length-take-le _ _ (omega (arith, few, ap length c.places-places.ensures ∙ listed_length _ _)))

-- ---- the answers

pub returns-in_err-end : goal.returns-in_err-end
returns-in_err-end c =
    let x = c.args.start in
    let h = x.head in
    let left : c.from_residual.result ≡ Err c.in_err-end.field-0.0 = search rules in
    let found : lines_check c.args.text.now ≡ c.end.result =
    end_left c.args.text.now h.edition h.n h.t h.p x.places x.actions x.edges c.requires.0 _ c.actions-list.ensures
    ∙ sym (c.end.ensures ∙ ap (end_test c.args.text.now) c.fill-end.ensures.value) in
    rw left (lines_refused _ _ _ (found ∙ c.in_err-end.was))

pub returns : goal.returns
returns c =
    let x = c.args.start in
    let h = x.head in
    let s = c.args.text.now in
    let found : lines_check s ≡ c.end.result =
    end_left s h.edition h.n h.t h.p x.places x.actions x.edges c.requires.0 _ c.actions-list.ensures
    ∙ sym (c.end.ensures ∙ ap (end_test s) c.fill-end.ensures.value) in
    file_saved s (found ∙ c.in_ok-end.was) _ _ h.edition h.n h.t h.p _
    (text_handed s h.edition h.n h.t h.p x.places x.actions x.edges c.requires.0 _ c.actions-list.ensures _ c.places-places.ensures _ c.requires.2 _ (λ i. search rules) (search rules) c.fill-end.ensures.by_index)
    _ _ _ c.save_first.ensures
