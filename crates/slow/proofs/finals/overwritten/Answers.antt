use mathlib.Core.Path.{◌≡◌, refl, sym}
use native.Mathlib.Omega.{arith}
use Rattle.rows.specs.Sets.{any}
use Rattle.rows.proofs.Laws.Quantifiers.{any_in}
use Rattle.slow.specs.Laws.Loops.{none_more}
use Rattle.slow.proofs.finals.overwritten.Invariants.{f1}
use Rattle.slow.proofs.finals.overwritten.Goals as goal

pub loop-v-init : goal.loop-v-init
unfolding any
loop-v-init c = (omega arith, refl)

pub returns-then-is-edge : goal.returns-then-is-edge
returns-then-is-edge c =
    let s = c.args in
    let l1 = c.loop-v in
    sym (any_in s.t.n (f1 s.t.numbers.now s.t.n s.w s.r) l1.v (omega arith) (rw (c.edge-in-loop-v-2.ensures, c.edge-in-loop-v.ensures, c.edge.ensures, c.is.ensures) at c.if-is-edge.true))

pub loop-v-preserved : goal.loop-v-preserved
loop-v-preserved c =
    let s = c.args in
    let l1 = c.loop-v in
    (omega arith, none_more (f1 s.t.numbers.now s.t.n s.w s.r) l1.v l1.invariant.1 (rw (c.edge-in-loop-v-2.ensures, c.edge-in-loop-v.ensures, c.edge.ensures, c.is.ensures) at c.if-is-edge.false))

pub returns : goal.returns
returns c =
    let s = c.args in
    let l1 = c.loop-v in
    let e : l1.v ≡ s.t.n = omega arith in
    sym (rw e at l1.invariant.1)
