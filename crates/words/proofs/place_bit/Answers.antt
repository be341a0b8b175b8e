use mathlib.Core.Path.{fun_ext}
use Rattle.std.proofs.Common.{eq-eqb, ne_eqb}
use Rattle.rows.specs.Numbers.{bit}
use Rattle.rows.proofs.Laws.Bits.{bit_zero}
use Rattle.words.proofs.place_bit.Goals as goal

pub returns-then-words-eq1 : goal.returns-then-words-eq1
unfolding bit
returns-then-words-eq1 c = rw (eq-eqb _ _ c.if-words-eq1.true) (fun_ext bit_zero)

pub returns-else-words-eq1 : goal.returns-else-words-eq1
unfolding bit
returns-else-words-eq1 c = rw (ne_eqb _ _ c.if-words-eq1.false) c.one_bit.ensures
