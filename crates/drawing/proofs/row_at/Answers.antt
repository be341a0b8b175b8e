use mathlib.Core.Path.{fun_ext}
use Rattle.std.proofs.Common.{◌+◌, ◌*◌, ◌≤◌, sym, ◌∙◌, arith, le-ltb}
use Rattle.std.proofs.Math.Nat.{mul-le-mul}
use Rattle.rows.proofs.Laws.Bits.{bit_zero}
use Rattle.drawing.specs.Files.{rows_length, row_no}
use Rattle.drawing.specs.Laws.Sizes.{row_inside}
use Rattle.drawing.proofs.row_at.Goals as goal

pub row-requires-then-a-n : goal.row-requires-then-a-n
row-requires-then-a-n c =
    let a = c.args in
    let each = 6 + rows_length a.n a.n in
    let near : each * a.k ≤ each * 6 = mul-le-mul {n₂ = each} {m₂ = 6} (omega arith) (omega arith) in
    omega (arith, row_inside a.n a.a a.n (omega arith))

pub returns-else-a-n : goal.returns-else-a-n
unfolding row_no
returns-else-a-n c = c.empty.ensures ∙ rw (le-ltb _ _ c.if-a-n.false) (sym (fun_ext bit_zero))
