use mathlib.Core.Path.{◌∙◌}
use Rattle.rows.specs.Numbers.{held}
use Rattle.model.proofs.Laws.Verdicts.{due_for_lem}
use Rattle.slow.proofs.judge.Goals as goal

pub returns : goal.returns
returns c =
    let a = c.args in
    let scanned = c.scan-verdict.ensures in
    let counted = c.indeterminates-indeterminate.ensures in
    let unsequenced = c.pairs-unsequenced.ensures in
    let races = c.pairs-races.ensures in
    let due-is = c.is_due-due.ensures ∙ due_for_lem a.edition a.t.n (held a.t.numbers.now) _ _ _ _ scanned counted unsequenced races in
    let given = rw due-is at c.give_order-part.ensures in
    record { value = rw (scanned, counted, unsequenced, races, given.value); order_after = given.order_after }
