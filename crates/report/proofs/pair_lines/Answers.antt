use Rattle.std.proofs.Common.{arith}
use Rattle.rows.specs.Numbers.{size, held, joined}
use Rattle.rows.specs.Laws.Lists.{joined_one}
use Rattle.page.specs.Lines.{lines}
use Rattle.page.specs.Laws.Members.{lines_append}
use Rattle.page.specs.Laws.Pens.{pens, penned_then}
use Rattle.report.specs.Report.{row_pairs, pair_line}
use Rattle.report.specs.Laws.Lists.{row_lines}
use Rattle.report.proofs.pair_lines.Goals as goal

pub loop-a-init : goal.loop-a-init
unfolding joined
loop-a-init c = grind (arith, pens)

pub loop-a-preserved : goal.loop-a-preserved
loop-a-preserved c =
    let l = c.loop-a in
    let a = c.args in
    let pairs = row_pairs a.n (held a.d.now a.k) in
    let row = rw (
      c.before-row.ensures,
      c.after.ensures,
      c.load.ensures,
      row_lines a.word.now a.n size (held a.d.now a.k) l.a c.requires,
    ) at c.row_lines.ensures in
    rw (joined_one l.a pairs, lines_append (pair_line a.word.now) (joined l.a pairs) (pairs l.a), ← penned_then a.pen.now (lines (pair_line a.word.now) (joined l.a pairs)) (lines (pair_line a.word.now) (pairs l.a)), ← l.invariant) row
