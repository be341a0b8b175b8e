-- `check`: the list's check tells the store's length. Assumes nothing.
use mathlib.Core.Path.{sym, ◌∙◌}
use Rattle.lists.proofs.Laws.Taken.{counted_sized}
use Rattle.finder.proofs.check.Goals as goal

pub half-requires : goal.half-requires
half-requires c = (counted_sized _ _ _ _ _ _ _ _ (sym c.check.ensures ∙ c.in_ok-check.was)).store_room
