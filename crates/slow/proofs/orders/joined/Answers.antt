use mathlib.Core.Path.{◌≡◌, refl, sym}
use native.Mathlib.Omega.{arith}
use Rattle.rows.specs.Sets.{any}
use Rattle.rows.proofs.Laws.Quantifiers.{any_in}
use Rattle.slow.specs.Laws.Loops.{none_more}
use Rattle.slow.proofs.orders.joined.Invariants.{f1}
use Rattle.slow.proofs.orders.joined.Goals as goal

pub loop-z-init : goal.loop-z-init
unfolding any
loop-z-init c = (omega arith, refl)

pub returns-then-leads : goal.returns-then-leads
returns-then-leads c =
    let s = c.args in
    let l1 = c.loop-z in
    sym (any_in s.t.n (f1 s.t.numbers.now s.t.n s.k s.l s.a s.b) l1.z (omega arith) (rw (c.leads-in-loop-z.ensures, c.leads.ensures) at c.if-leads.true))

pub loop-z-preserved : goal.loop-z-preserved
loop-z-preserved c =
    let s = c.args in
    let l1 = c.loop-z in
    (omega arith, none_more (f1 s.t.numbers.now s.t.n s.k s.l s.a s.b) l1.z l1.invariant.1 (rw (c.leads-in-loop-z.ensures, c.leads.ensures) at c.if-leads.false))

pub returns : goal.returns
returns c =
    let s = c.args in
    let l1 = c.loop-z in
    let e : l1.z ≡ s.t.n = omega arith in
    sym (rw e at l1.invariant.1)
