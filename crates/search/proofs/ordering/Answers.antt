-- `ordering`: the test, and both answers. Assumes nothing.
use native.Mathlib.Omega.{arith}
use borrow.Author.Tests.{lt-ltb, le-ltb}
use Rattle.search.proofs.ordering.Goals as goal

pub returns-then-i-n : goal.returns-then-i-n
returns-then-i-n c = (rw (lt-ltb _ _ c.if-i-n.true), omega arith)

pub returns-else-i-n : goal.returns-else-i-n
returns-else-i-n c = (rw (le-ltb _ _ c.if-i-n.false), omega arith)
