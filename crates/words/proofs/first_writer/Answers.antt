use Rattle.std.proofs.Common.{◌≡◌, sym, arith, eq-eqb}
use Rattle.rows.proofs.Laws.Quantifiers.{any_none, least_hit, least_none}
use Rattle.words.specs.Sheet.{same_written}
use Rattle.words.proofs.first_writer.Goals as goal

pub returns-then-written-sheet : goal.returns-then-written-sheet
returns-then-written-sheet c =
    let l = c.loop-b in
    let a = c.args in
    sym (least_hit a.a (same_written a.sheet.now a.a) l.b c.loop-b-test.true (eq-eqb _ _ c.if-written-sheet.true) l.invariant)

pub returns : goal.returns
returns c =
    let l = c.loop-b in
    let a = c.args in
    let e : l.b ≡ a.a = omega arith in
    sym (least_none a.a (same_written a.sheet.now a.a) (any_none a.a (same_written a.sheet.now a.a) (rw e at l.invariant)))
