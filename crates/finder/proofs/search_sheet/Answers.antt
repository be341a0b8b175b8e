-- `search_sheet`: the book on the desk, the plan from it, then the search. Assumes nothing.
use Rattle.finder.specs.Laws.Plan.{placing_laid, finds_laid}
use borrow.Author.Rules.{rules}
use Rattle.finder.proofs.search_sheet.Goals as goal

pub search-requires : goal.search-requires
search-requires c =
    let (acts, places, sheet) = c.requires.2 in
    record {
      rows = c.requires.0;
      desk_long = search rules;
      store_room = search rules;
      placing = placing_laid c.args.n acts places _ _ _ (c.lay.ensures acts places sheet);
    }

pub returns : goal.returns
returns c = λ X actions places sheet.
    let a = c.args in
    finds_laid X a.edition a.n a.p actions places _ _ _ _ _
    (c.lay.ensures X.acts X.places sheet)
    (c.lay_at.ensures X.acts X.places sheet)
    c.lay_plan.ensures
    _ _ _ _ c.search.ensures
