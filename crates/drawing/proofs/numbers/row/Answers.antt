use Rattle.std.proofs.Common.{sym, ap, ◌∙◌, lt-ltb}
use Rattle.rows.specs.Numbers.{bit}
use Rattle.drawing.proofs.Laws.LittleEndian.{le_parts}
use Rattle.drawing.proofs.numbers.row.Goals as goal

pub returns-then-n-gt-WIDTH : goal.returns-then-n-gt-WIDTH
returns-then-n-gt-WIDTH c =
    let a = c.args in
    c.of_halves.ensures
    ∙ rw (c.long-high.ensures, c.long-low.ensures, lt-ltb _ _ c.if-n-gt-WIDTH.true) (ap bit (sym (le_parts a.s.now a.at 8 8)))
