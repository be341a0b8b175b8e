use mathlib.Core.Path.{◌≡◌, refl, sym}
use native.Mathlib.Omega.{arith}
use Rattle.rows.specs.Sets.{any}
use Rattle.rows.proofs.Laws.Quantifiers.{any_in}
use Rattle.slow.specs.Laws.Loops.{none_more}
use Rattle.slow.proofs.offences.locked.Invariants.{f1}
use Rattle.slow.proofs.offences.locked.Goals as goal

pub loop-p-init : goal.loop-p-init
unfolding any
loop-p-init c = (omega arith, refl)

pub returns-then-immediate-is : goal.returns-then-immediate-is
returns-then-immediate-is c =
    let s = c.args in
    let l1 = c.loop-p in
    sym (any_in s.t.n (f1 s.t.numbers.now s.t.n s.a) l1.p (omega arith) (rw (c.edge.ensures, c.is.ensures, c.immediate.ensures) at c.if-immediate-is.true))

pub loop-p-preserved : goal.loop-p-preserved
loop-p-preserved c =
    let s = c.args in
    let l1 = c.loop-p in
    (omega arith, none_more (f1 s.t.numbers.now s.t.n s.a) l1.p l1.invariant.1 (rw (c.edge.ensures, c.is.ensures, c.immediate.ensures) at c.if-immediate-is.false))

pub returns : goal.returns
returns c =
    let s = c.args in
    let l1 = c.loop-p in
    let e : l1.p ≡ s.t.n = omega arith in
    sym (rw e at l1.invariant.1)
