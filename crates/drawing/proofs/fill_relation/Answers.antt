use mathlib.Core.Path.{fun_ext}
use Rattle.std.proofs.Common.{◌≡◌, refl, ap, ◌∙◌, ⊎_elim, arith, eq-eqb, ne_eqb}
use Rattle.rows.proofs.Laws.Bits.{bit_zero}
use Rattle.rows.proofs.Laws.Loops.{fill_done}
use Rattle.rows.proofs.Laws.Parts.{held_out}
use Rattle.rows.specs.Laws.Truth.{eq_or_ne}
use Rattle.rows.specs.Numbers.{bit, size, held}
use Rattle.drawing.specs.Files.{row_no}
use Rattle.drawing.proofs.Laws.Stored.{row_none, rows_rel}
use Rattle.drawing.proofs.fill_relation.Goals as goal

pub returns : goal.returns
returns c j =
    let a = c.args in
    let s = a.file.now in
    let e : c.loop-a.a ≡ size = omega arith in
    rw (rows_rel s a.n a.p a.k) (⊎_elim
    (λ (q : j ≡ a.k). rw (q, eq-eqb a.k a.k refl)
    (fill_done size (held c.loop-a.store a.k) (λ x. bit (row_no s a.n a.p a.k x)) (held_out c.loop-a.store a.k) (λ x m. ap bit (row_none s a.n a.p a.k x (omega arith)) ∙ fun_ext bit_zero) (rw e at c.loop-a.invariant.0)))
    (λ (ne : j ≡ a.k → ⊥). rw (ne_eqb j a.k ne) (c.loop-a.invariant.1 j ne))
    (eq_or_ne j a.k))
