use mathlib.Core.Path.{ap, ◌∙◌}
use Rattle.model.specs.Words.{book_from}
use Rattle.model.specs.Model.{filled}
use Rattle.model.specs.Laws.Filled.{filled_is, filled_any}
use Rattle.model.specs.Laws.Placing.{placing}
use Rattle.desk.specs.Laws.Notes.{noted_filled}
use borrow.Author.Rules.{rules}
use Rattle.judge.proofs.judge_sheet.Goals as goal

pub judge_desk-requires : goal.judge_desk-requires
judge_desk-requires c =
    let (acts, places, sheet) = c.requires.3 in
    let laid = c.lay.ensures acts places sheet in
    let derived = c.derive.ensures.d_after in (
      search rules,
      search rules,
      rw derived (noted_filled _ _ _ c.take_notes.ensures),
      rw derived (filled_is c.args.n _),
      rw (derived, laid, filled_any c.args.n (book_from c.args.n acts places _) _) (placing c.args.n acts places _),
    )

pub returns : goal.returns
returns c = λ acts places h.
    let book = c.lay.ensures acts places h in
    let n = c.args.n in
    let filled_is = c.derive.ensures.d_after ∙ ap (filled n) book ∙ filled_any n _ _ in
    record {
      ruled = rw filled_is at c.judge_desk.ensures.ruled;
      store = λ j. c.derive.ensures.by_index j ∙ rw filled_is;
      order = rw filled_is at c.judge_desk.ensures.order_after;
    }
