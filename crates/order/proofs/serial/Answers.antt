use mathlib.Core.Path.{sym, ap, ◌∙◌}
use lib.Dec.{ltb}
use Rattle.rows.specs.Sets.{Set, before}
use Rattle.rows.specs.Numbers.{size, has, held}
use Rattle.model.specs.Judge.{precedes}
use Rattle.order.proofs.Steps.{store_next, store_none, store_done, stored, all_left}
use Rattle.order.proofs.serial.Goals as goal

pub loop-i-init : goal.loop-i-init
loop-i-init c =
    let a = c.args in
    let all = c.before-left.ensures ∙ ap (λ (s : Set). before s a.n) c.full.ensures ∙ all_left a.n size c.requires.0 in
    rw all (stored a.n (precedes a.n (held a.d.now)) (λ x. ltb x a.n) a.order.now c.requires.1)

pub returns-then-a-n : goal.returns-then-a-n
returns-then-a-n c =
    let a = c.args in
    let l = c.loop-i in
    sym (store_none a.n (precedes a.n (held a.d.now)) l.i (has l.left) l.order c.next-a.result c.loop-i-test.true c.next-a.ensures c.if-a-n.true) ∙ l.invariant

pub loop-i-preserved : goal.loop-i-preserved
loop-i-preserved c =
    let a = c.args in
    let l = c.loop-i in
    rw c.without-left.ensures
    (sym (store_next a.n (precedes a.n (held a.d.now)) l.i (has l.left) l.order c.next-a.result c.loop-i-test.true c.next-a.ensures c.if-a-n.false) ∙ l.invariant)

pub returns : goal.returns
returns c =
    let a = c.args in
    let l = c.loop-i in
    sym (store_done a.n (precedes a.n (held a.d.now)) l.i (has l.left) l.order c.loop-i-test.false) ∙ l.invariant
