use mathlib.Core.Path.{◌≡◌, refl, sym}
use native.Mathlib.Omega.{arith}
use Rattle.rows.specs.Sets.{any}
use Rattle.rows.proofs.Laws.Quantifiers.{any_in}
use Rattle.slow.specs.Laws.Loops.{none_more}
use Rattle.slow.proofs.offences.other_source.Invariants.{f1}
use Rattle.slow.proofs.offences.other_source.Goals as goal

pub loop-c-init : goal.loop-c-init
unfolding any
loop-c-init c = (omega arith, refl)

pub returns-then-c-a : goal.returns-then-c-a
returns-then-c-a c =
    let s = c.args in
    let l1 = c.loop-c in
    sym (any_in s.t.n (f1 s.t.numbers.now s.t.n s.a s.b) l1.c (omega arith) (rw c.edge.ensures at c.if-c-a.true))

pub loop-c-preserved : goal.loop-c-preserved
loop-c-preserved c =
    let s = c.args in
    let l1 = c.loop-c in
    (omega arith, none_more (f1 s.t.numbers.now s.t.n s.a s.b) l1.c l1.invariant.1 (rw c.edge.ensures at c.if-c-a.false))

pub returns : goal.returns
returns c =
    let s = c.args in
    let l1 = c.loop-c in
    let e : l1.c ≡ s.t.n = omega arith in
    sym (rw e at l1.invariant.1)
