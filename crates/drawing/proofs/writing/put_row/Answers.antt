-- `writing::put_row`: the low half, and above 64 actions the high one.
use Rattle.std.proofs.Common.{◌≡◌, ◌+◌, ◌*◌, ◌^◌, ◌++◌, arith}
use borrow.Author.Tests.{lt-ltb, le-ltb}
use Rattle.rows.specs.Numbers.{width}
use Rattle.page.specs.Laws.Pens.{penned_then}
use Rattle.drawing.specs.Files.{le}
use Rattle.drawing.proofs.Laws.LittleEndian.{le_both, le_low}
use Rattle.drawing.proofs.writing.put_row.Goals as goal

pub returns-then-n-gt-WIDTH : goal.returns-then-n-gt-WIDTH
returns-then-n-gt-WIDTH c =
    let a = c.args in
    let both : le 16 (a.high * 2 ^ width + a.low) ≡ le 8 a.low ++ le 8 a.high = le_both 8 8 a.high a.low (omega arith) in
    rw (lt-ltb _ _ c.if-n-gt-WIDTH.true, both, c.put_number-then-n-gt-WIDTH.ensures, c.put_number.ensures) (penned_then a.pen.now (le 8 a.low) (le 8 a.high))

pub returns-else-n-gt-WIDTH : goal.returns-else-n-gt-WIDTH
returns-else-n-gt-WIDTH c =
    let a = c.args in
    let only : le 8 (a.high * 2 ^ width + a.low) ≡ le 8 a.low = le_low 8 a.high a.low (omega arith) in
    rw (le-ltb _ _ c.if-n-gt-WIDTH.false, only) c.put_number.ensures
