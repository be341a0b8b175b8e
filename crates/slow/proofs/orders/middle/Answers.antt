use mathlib.Core.Path.{◌≡◌, refl}
use native.Mathlib.Nat.{le_refl}
use native.Mathlib.Omega.{arith}
use borrow.Author.Tests.{lt-ltb, le-ltb}
use Rattle.rows.specs.Sets.{any}
use Rattle.rows.specs.Numbers.{held}
use Rattle.rows.proofs.Laws.Quantifiers.{any_no, least_hit, least_none}
use Rattle.model.specs.Model.{between, middle}
use Rattle.slow.specs.Searches.{relation}
use Rattle.slow.specs.Laws.Loops.{none_more}
use Rattle.slow.proofs.orders.middle.Goals as goal

pub loop-z-init : goal.loop-z-init
unfolding any
loop-z-init c = (omega arith, refl)

pub returns-then-leads : goal.returns-then-leads
unfolding middle
returns-then-leads c =
    let s = c.args in
    let l = c.loop-z in
    let f = between s.t.n (held s.t.numbers.now) (relation s.t.n (held s.t.numbers.now) s.k) s.a s.b in
    rw (least_hit s.t.n f l.z c.loop-z-test.true (rw (c.leads-in-loop-z-2.ensures, c.leads-in-loop-z.ensures, c.leads.ensures) at c.if-leads.true) (any_no l.z f l.invariant.1), lt-ltb l.z s.t.n c.loop-z-test.true)

pub loop-z-preserved : goal.loop-z-preserved
loop-z-preserved c =
    let s = c.args in
    let l = c.loop-z in
    (omega arith, none_more (between s.t.n (held s.t.numbers.now) (relation s.t.n (held s.t.numbers.now) s.k) s.a s.b) l.z l.invariant.1 (rw (c.leads-in-loop-z-2.ensures, c.leads-in-loop-z.ensures, c.leads.ensures) at c.if-leads.false))

pub returns : goal.returns
unfolding middle
returns c =
    let s = c.args in
    let l = c.loop-z in
    let f = between s.t.n (held s.t.numbers.now) (relation s.t.n (held s.t.numbers.now) s.k) s.a s.b in
    let e : l.z ≡ s.t.n = omega arith in
    rw (least_none s.t.n f (rw e at l.invariant.1), le-ltb s.t.n s.t.n (le_refl s.t.n))
