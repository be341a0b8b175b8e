use mathlib.Core.Path.{fun_ext}
use Rattle.std.proofs.Common.{lt-ltb, le-ltb}
use Rattle.rows.specs.Numbers.{width}
use Rattle.rows.proofs.Laws.Bits.{bit_zero, bit_shl}
use Rattle.words.proofs.one_bit.Goals as goal

pub returns-then-b-lt-WIDTH : goal.returns-then-b-lt-WIDTH
returns-then-b-lt-WIDTH c = rw (lt-ltb c.args.b width c.if-b-lt-WIDTH.true) (fun_ext λ x. bit_shl width c.args.b x c.if-b-lt-WIDTH.true)

pub returns-else-b-lt-WIDTH : goal.returns-else-b-lt-WIDTH
returns-else-b-lt-WIDTH c = rw (le-ltb c.args.b width c.if-b-lt-WIDTH.false) (fun_ext bit_zero)
