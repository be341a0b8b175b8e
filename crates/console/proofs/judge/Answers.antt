-- `judge`: where there is room the candidate is drawn and listed, and the second door's answer is the machine's. Assumes nothing.
use mathlib.Core.Path.{◌≡◌, sym}
use lib.Seq.{length-take-le}
use borrow.Author.Rules.{rules}
use Rattle.std.specs.Prelude.{Err}
use Rattle.machine.specs.Code.{led_to}
use Rattle.console.specs.Laws.Calls.{order_short, store_short, drawn_room, listed_places, drawn_judged}
use Rattle.console.specs.Laws.Passing.{judge_passes}
use Rattle.console.proofs.judge.Goals as goal

pub returns-then-order-lt-ORDER_LENGTH : goal.returns-then-order-lt-ORDER_LENGTH
returns-then-order-lt-ORDER_LENGTH c = let k = judge_passes _ _ _ _ _ _ (order_short _ _ _ c.if-order-lt-ORDER_LENGTH.true) in record { judges_machine = k.0; passes_machine = k.1 }

pub returns-in_err-draw : goal.returns-in_err-draw
returns-in_err-draw c =
    let left : c.from_residual.result ≡ Err c.in_err-draw.field-0.0 = search rules in
    let k = judge_passes _ _ _ _ _ _ (store_short _ _ _ _ c.draw.ensures _ c.in_err-draw.was _) in
    rw left (record { judges_machine = k.0; passes_machine = k.1 })

pub slice_bounds-places-end : goal.slice_bounds-places-end
slice_bounds-places-end c = listed_places _ (led_to c.args.m) _ c.list-x.ensures

pub slice_bounds-judge_first-end : goal.slice_bounds-judge_first-end
slice_bounds-judge_first-end c = sym (length-take-le _ _ (listed_places _ (led_to c.args.m) _ c.list-x.ensures))

pub returns : goal.returns
returns c =
    let draws = c.draw.ensures in
    let k = judge_passes _ _ _ _ _ _
    (drawn_judged _ (led_to c.args.m) _ (drawn_room _ _ _ _ draws c.in_ok-draw.was) _ _ draws
    (λ i. search rules) _ c.list-x.ensures _
    c.if-order-lt-ORDER_LENGTH.false _ _ _ c.judge_first.ensures) in
    record { judges_machine = k.0; passes_machine = k.1 }
