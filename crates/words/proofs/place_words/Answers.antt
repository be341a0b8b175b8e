use mathlib.Core.Path.{fun_ext}
use Rattle.std.proofs.Common.{le-ltb}
use Rattle.rows.proofs.Laws.Bits.{bit_zero}
use Rattle.words.proofs.place_words.Goals as goal

pub returns-else-q-lt3 : goal.returns-else-q-lt3
returns-else-q-lt3 c = rw (le-ltb c.args.q 3 c.if-q-lt3.false) (fun_ext bit_zero)
