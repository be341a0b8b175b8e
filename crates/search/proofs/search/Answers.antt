-- `search`: a walk over all choices, and the answer by what it came to. Assumes nothing.
use mathlib.Core.Path.{refl}
use Rattle.choices.proofs.Laws.Lists.{spread_is}
use Rattle.search.specs.Laws.Finds.{left_le, finds}
use Rattle.search.proofs.search.Goals as goal

pub overflow_sub-result : goal.overflow_sub-result
overflow_sub-result c = left_le (rw (c.in-Err-Hit.is, c.in-Err-Hit.field-0-is) at c.walk.ensures.walks)

pub overflow_sub-result-in-Ok : goal.overflow_sub-result-in-Ok
overflow_sub-result-in-Ok c = left_le (rw c.in-Ok.is at c.walk.ensures.walks)

pub returns-in-Err-Hit : goal.returns-in-Err-Hit
returns-in-Err-Hit c = finds (rw (c.in-Err-Hit.is, c.in-Err-Hit.field-0-is, spread_is) at c.walk.ensures.walks) _ refl

pub returns-in-Ok : goal.returns-in-Ok
returns-in-Ok c = finds (rw (c.in-Ok.is, spread_is) at c.walk.ensures.walks) _ c.clear_derived-in-Ok.ensures

pub returns-in-Err-Spent : goal.returns-in-Err-Spent
returns-in-Err-Spent c = finds (rw (c.in-Err-Spent.is, c.in-Err-Spent.field-0-is, spread_is) at c.walk.ensures.walks) _ c.clear_derived.ensures
