use mathlib.Core.Path.{sym, ◌∙◌}
use Rattle.inspector.proofs.judge_both.Goals as goal

pub returns : goal.returns
returns c = λ es eo.
    let quick = c.judge-quick.ensures in
    let slow = rw (← es, ← eo) at c.judge_slowly-slow.ensures in
    record { answer = quick.value ∙ sym slow.value; stores = quick.store_after ∙ sym slow.store_after; orders = quick.order_after ∙ sym slow.order_after }
