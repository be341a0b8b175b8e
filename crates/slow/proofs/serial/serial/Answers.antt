use mathlib.Core.Path.{refl, sym, ◌∙◌}
use native.Mathlib.Omega.{arith}
use borrow.Author.Rules.{rules}
use lib.Dec.{ltb}
use Rattle.rows.specs.Numbers.{area, held}
use Rattle.rows.proofs.Laws.Parts.{zeros_none}
use Rattle.model.specs.Judge.{precedes}
use Rattle.model.specs.Laws.Greedy.{store_next, store_none, store_done, stored}
use Rattle.slow.specs.Searches.{left}
use Rattle.slow.specs.Laws.Order.{left_all, left_more}
use Rattle.slow.proofs.serial.serial.Goals as goal

pub loop-i-init : goal.loop-i-init
loop-i-init c =
    let n = c.args.t.n in
    let r = precedes n (held c.args.t.numbers.now) in
    (omega arith, refl, refl, rw (left_all n _ (zeros_none area 0 0)) (stored n r (λ x. ltb x n) c.args.order.now c.requires.1))

pub returns-else-a-t : goal.returns-else-a-t
returns-else-a-t c =
    let n = c.args.t.n in
    let r = precedes n (held c.args.t.numbers.now) in
    let l = c.loop-i in
    sym (store_none n r l.i (left n (held l.given 0 0)) l.order _ c.loop-i-test.true c.next-a.ensures c.if-a-t.false) ∙ l.invariant.3

pub loop-i-preserved : goal.loop-i-preserved
loop-i-preserved c =
    let n = c.args.t.n in
    let r = precedes n (held c.args.t.numbers.now) in
    let l = c.loop-i in
    let given = held l.given 0 0 in
    let a = c.next-a in (
      omega arith,
      search rules,
      search rules,
      rw (c.mark.ensures 0 0, left_more n given a.result) (sym (store_next n r l.i (left n given) l.order a.result c.loop-i-test.true a.ensures c.if-a-t.true) ∙ l.invariant.3),
    )

pub returns : goal.returns
returns c =
    let n = c.args.t.n in
    let r = precedes n (held c.args.t.numbers.now) in
    let l = c.loop-i in
    sym (store_done n r l.i (left n (held l.given 0 0)) l.order c.loop-i-test.false) ∙ l.invariant.3
