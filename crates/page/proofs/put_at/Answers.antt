use Rattle.std.proofs.Common.{arith}
use Rattle.page.specs.Laws.Pages.{stamp_in, stamp_past, stamp_full}
use Rattle.page.proofs.put_at.Goals as goal

pub returns-then-at-most : goal.returns-then-at-most
returns-then-at-most c = grind (arith, stamp_in, stamp_past)

pub returns : goal.returns
returns c = grind (arith, stamp_full)
