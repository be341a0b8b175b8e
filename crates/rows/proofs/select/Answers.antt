use Rattle.std.proofs.Common.{◌<◌, arith, lt-ltb}
use Rattle.rows.proofs.Laws.Loops.{collect_more}
use Rattle.rows.specs.Numbers.{size}
use Rattle.rows.proofs.select.Goals as goal

pub loop-b-preserved : goal.loop-b-preserved
loop-b-preserved g c = λ s told.
    let b = c.loop-b.b in
    let low : b < size = omega arith in
    rw (c.with_if-row.ensures, c.loop-b.invariant s told, told _ _ c.loop-b-test.true c.holds.ensures, lt-ltb b size low) (collect_more s b)
