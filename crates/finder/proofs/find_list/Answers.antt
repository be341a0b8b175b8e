-- `find_list`: the check, then the search. Assumes nothing.
use borrow.Author.Rules.{rules}
use mathlib.Core.Path.{◌≡◌, sym, ◌∙◌}
use Rattle.std.specs.Prelude.{Err}
use Rattle.finder.specs.Laws.Doors.{find_refused, find_sought}
use Rattle.finder.proofs.find_list.Goals as goal

pub search_good-requires : goal.search_good-requires
search_good-requires c = sym c.check.ensures ∙ c.in_ok-check.was

pub returns-in_err-check : goal.returns-in_err-check
returns-in_err-check c =
    let told : c.from_residual.result ≡ Err c.in_err-check.field-0.0 = search rules in
    rw told (find_refused _ _ c.gather-g.ensures.stands _ _ _ _ _ _ _ _ _ (sym c.check.ensures ∙ c.in_err-check.was))

pub returns : goal.returns
returns c =
    find_sought _ _ c.gather-g.ensures.stands _ _ _ _ _ _ _ _ _
    (λ i. (c.slice_known-1.given i).fits)
    (sym c.check.ensures ∙ c.in_ok-check.was)
    (c.search_good.ensures _ c.gather-g.ensures.stands)
