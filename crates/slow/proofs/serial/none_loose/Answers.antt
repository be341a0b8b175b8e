use mathlib.Core.Bool.{not}
use mathlib.Core.Path.{◌≡◌, refl, sym, ap}
use native.Mathlib.Omega.{arith}
use Rattle.rows.specs.Sets.{any}
use Rattle.rows.proofs.Laws.Quantifiers.{any_in}
use Rattle.slow.specs.Laws.Loops.{none_more}
use Rattle.slow.proofs.serial.none_loose.Goals as goal

pub loop-a-init : goal.loop-a-init
unfolding any
loop-a-init c = (omega arith, refl)

pub loop-b-init : goal.loop-b-init
unfolding any
loop-b-init c = (omega arith, refl)

pub returns-then-loose : goal.returns-then-loose
returns-then-loose c =
    let l = c.loop-a in
    let m = c.loop-b in
    ap not (sym (any_in _ _ l.a c.loop-a-test.true (any_in _ _ m.b c.loop-b-test.true (rw c.loose.ensures at c.if-loose.true))))

pub loop-b-preserved : goal.loop-b-preserved
loop-b-preserved c =
    let m = c.loop-b in
    (omega arith, none_more _ m.b m.invariant.1 (rw c.loose.ensures at c.if-loose.false))

pub loop-a-preserved : goal.loop-a-preserved
loop-a-preserved c =
    let l = c.loop-a in
    let m = c.loop-b in
    let e : m.b ≡ c.args.t.n = omega arith in
    (omega arith, none_more _ l.a l.invariant.1 (rw e at m.invariant.1))

pub returns : goal.returns
returns c =
    let l = c.loop-a in
    let e : l.a ≡ c.args.t.n = omega arith in
    ap not (sym (rw e at l.invariant.1))
