-- `edges::members`: the row has those taken below b, and next stands after them. Assumes nothing.
use mathlib.Core.Path.{◌≡◌}
use native.Mathlib.Omega.{arith}
use Rattle.text.specs.Laws.Rows.{take_start, take_go}
use Rattle.text.proofs.edges.members.Goals as goal

pub loop-b-init : goal.loop-b-init
loop-b-init c = take_start c.empty-row.ensures

pub loop-b-preserved : goal.loop-b-preserved
loop-b-preserved c = let l = c.loop-b in take_go l.invariant (omega arith) c.edge-after.ensures c.with_if-row.ensures

pub returns : goal.returns
returns c = let l = c.loop-b in let e : l.b ≡ c.args.n = omega arith in (rw e at l.invariant.next, rw e at l.invariant.is)
