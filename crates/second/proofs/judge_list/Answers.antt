-- `judge_list`: the order buffer's length, the check, then the judge. Assumes nothing.
use borrow.Author.Rules.{rules}
use mathlib.Core.Path.{◌≡◌, sym, ◌∙◌}
use Rattle.std.specs.Prelude.{Err}
use Rattle.second.specs.Laws.Settled.{door_short, door_refused, door_taken}
use Rattle.second.proofs.judge_list.Goals as goal

pub returns-then-order-lt-ORDER_LENGTH : goal.returns-then-order-lt-ORDER_LENGTH
returns-then-order-lt-ORDER_LENGTH c = door_short _ _ _ _ _ _ _ _ c.if-order-lt-ORDER_LENGTH.true

pub returns-in_err-check : goal.returns-in_err-check
returns-in_err-check c =
    let told : c.from_residual.result ≡ Err c.in_err-check.field-0.0 = search rules in
    rw told (door_refused _ _ c.gather-g.ensures.stands _ _ _ _ _ _ _ c.if-order-lt-ORDER_LENGTH.false _ _
    (sym c.check.ensures ∙ c.in_err-check.was))

pub judge_good-requires : goal.judge_good-requires
judge_good-requires c = (sym c.check.ensures ∙ c.in_ok-check.was, c.if-order-lt-ORDER_LENGTH.false)

pub returns : goal.returns
returns c =
    door_taken _ _ c.gather-g.ensures.stands _ _ _ _ _ _ _ c.if-order-lt-ORDER_LENGTH.false _ _ _
    (λ i. (c.slice_known-1.given i).fits)
    (sym c.check.ensures ∙ c.in_ok-check.was)
    c.judge_good.ensures
