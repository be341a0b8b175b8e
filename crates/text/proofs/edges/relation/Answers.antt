-- `edges::relation`: the rows below a are stored, and next stands after them. Assumes nothing.
use mathlib.Core.Path.{◌≡◌}
use native.Mathlib.Omega.{arith}
use Rattle.text.specs.Laws.Rows.{store_start, store_go}
use Rattle.text.proofs.edges.relation.Goals as goal

pub loop-a-init : goal.loop-a-init
loop-a-init c = store_start

pub loop-a-preserved : goal.loop-a-preserved
loop-a-preserved c =
    let l = c.loop-a in
    store_go l.invariant c.barred.ensures c.row-read.ensures c.put.ensures

pub returns : goal.returns
returns c = let l = c.loop-a in let e : l.a ≡ c.args.n = omega arith in record { value = rw e at l.invariant.next; by_index = rw e at l.invariant.rows }
