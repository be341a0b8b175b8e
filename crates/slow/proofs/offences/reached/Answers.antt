use mathlib.Core.Path.{◌≡◌, refl, sym}
use native.Mathlib.Omega.{arith}
use Rattle.rows.specs.Sets.{any}
use Rattle.rows.proofs.Laws.Quantifiers.{any_in}
use Rattle.slow.specs.Laws.Loops.{none_more}
use Rattle.slow.proofs.offences.reached.Invariants.{f1}
use Rattle.slow.proofs.offences.reached.Goals as goal

pub loop-a-init : goal.loop-a-init
unfolding any
loop-a-init c = (omega arith, refl)

pub returns-then-edge : goal.returns-then-edge
returns-then-edge c =
    let s = c.args in
    let l1 = c.loop-a in
    sym (any_in s.t.n (f1 s.t.numbers.now s.t.n s.k s.b) l1.a (omega arith) (rw c.edge.ensures at c.if-edge.true))

pub loop-a-preserved : goal.loop-a-preserved
loop-a-preserved c =
    let s = c.args in
    let l1 = c.loop-a in
    (omega arith, none_more (f1 s.t.numbers.now s.t.n s.k s.b) l1.a l1.invariant.1 (rw c.edge.ensures at c.if-edge.false))

pub returns : goal.returns
returns c =
    let s = c.args in
    let l1 = c.loop-a in
    let e : l1.a ≡ s.t.n = omega arith in
    sym (rw e at l1.invariant.1)
