-- `edges::fill`: the relations below k are stored, and next stands after them. Assumes nothing.
use mathlib.Core.Path.{◌≡◌}
use native.Mathlib.Omega.{arith}
use Rattle.model.specs.Limits.{given_relations}
use Rattle.text.specs.Laws.Rows.{fill_start, fill_go}
use Rattle.text.proofs.edges.fill.Goals as goal

pub loop-k-init : goal.loop-k-init
loop-k-init c = fill_start

pub loop-k-preserved : goal.loop-k-preserved
loop-k-preserved c =
    let l = c.loop-k in
    fill_go l.invariant c.relation-next.ensures.value c.relation-next.ensures.by_index

pub returns : goal.returns
returns c = let l = c.loop-k in let e : l.k ≡ given_relations = omega arith in record { value = rw e at l.invariant.next; by_index = rw e at l.invariant.rows }
