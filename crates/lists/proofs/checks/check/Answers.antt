-- `checks::check`: 9, 4, 5 and 3 are tested first. Assumes nothing.
use mathlib.Core.Path.{sym, ◌∙◌}
use native.Mathlib.Omega.{arith}
use Rattle.lists.proofs.Laws.Taken.{sized}
use Rattle.lists.proofs.checks.check.Goals as goal

pub content-requires : goal.content-requires
content-requires c =
    let g = sized _ _ _ _ _ _ _ (sym c.sizes.ensures ∙ c.in_ok-sizes.was) in
    (g.few_actions, g.few_places, omega (arith, g.bytes), omega (arith, g.store_room))
