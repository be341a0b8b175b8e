use native.Mathlib.Omega.{arith}
use Rattle.rows.proofs.Laws.Members.{ones_past, ones_here, ones_all}
use Rattle.rows.proofs.ones.Goals as goal

pub returns-then-n-i : goal.returns-then-n-i
returns-then-n-i c = ones_past c.args.n c.args.i c.if-n-i.true

pub returns-then-n-i-2 : goal.returns-then-n-i-2
returns-then-n-i-2 c = ones_here c.args.n c.args.i c.if-n-i-2.true

pub returns : goal.returns
returns c = ones_all c.args.n c.args.i (omega arith)
