use mathlib.Core.Bool.{not}
use mathlib.Core.Path.{◌≡◌, refl, sym, ap, ◌∙◌}
use native.Mathlib.Omega.{arith}
use Rattle.rows.specs.Sets.{any}
use Rattle.rows.specs.Numbers.{held}
use Rattle.rows.proofs.Laws.Quantifiers.{any_in}
use Rattle.slow.specs.Laws.Order.{places_by}
use Rattle.slow.specs.Laws.Loops.{none_more}
use Rattle.slow.proofs.serial.strong_places.Goals as goal

pub loop-a-init : goal.loop-a-init
unfolding any
loop-a-init c = (omega arith, refl)

pub returns-then-is : goal.returns-then-is
returns-then-is c =
    let l = c.loop-a in
    let s = c.args in
    ap not (sym (any_in _ _ l.a c.loop-a-test.true (rw (c.is-in-loop-a-2.ensures, c.is-in-loop-a.ensures, c.is.ensures) at c.if-is.true))) ∙ places_by s.t.n (held s.t.numbers.now)

pub loop-a-preserved : goal.loop-a-preserved
loop-a-preserved c =
    let l = c.loop-a in
    (omega arith, none_more _ l.a l.invariant.1 (rw (c.is-in-loop-a-2.ensures, c.is-in-loop-a.ensures, c.is.ensures) at c.if-is.false))

pub returns : goal.returns
returns c =
    let l = c.loop-a in
    let e : l.a ≡ c.args.t.n = omega arith in
    let s = c.args in
    ap not (sym (rw e at l.invariant.1)) ∙ places_by s.t.n (held s.t.numbers.now)
