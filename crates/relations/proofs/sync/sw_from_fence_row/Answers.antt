use Rattle.relations.specs.Laws.Sync.{sw_from_fence_by, sw_from_no_fence}
use Rattle.rows.specs.Numbers.{held}
use mathlib.Core.Path.{◌∙◌}
use Rattle.relations.proofs.sync.sw_from_fence_row.Goals as goal

pub returns-then-not-here : goal.returns-then-not-here
returns-then-not-here c =
    let a = c.args in
    let other = rw (c.contains-here.ensures, c.and.ensures, c.row.ensures, c.row-fences.ensures) at c.if-not-here.true in
    c.empty.ensures ∙ sw_from_no_fence a.desk.now.n (held a.desk.now.book.now) a.a other

pub returns : goal.returns
returns c =
    let a = c.args in
    let here = rw (c.contains-here.ensures, c.and.ensures, c.row.ensures, c.row-fences.ensures) at c.if-not-here.false in
    rw (
      c.and-2.ensures,
      c.row-3.ensures,
      c.or.ensures,
      c.and-later.ensures,
      c.join.ensures,
      c.and-y.ensures,
      c.row-2.ensures,
      c.told_row.ensures,
      c.row-fences.ensures,
    ) (sw_from_fence_by a.desk.now.n (held a.desk.now.book.now) a.a here)
