use mathlib.Core.Path.{◌∙◌}
use Rattle.rows.specs.Numbers.{held}
use Rattle.order.specs.Laws.Due.{due_for_lem}
use Rattle.judge.proofs.judge_desk.Goals as goal

pub returns : goal.returns
returns c =
    let a = c.args in
    let ρ = held a.d.now in
    let scanned = c.scan-verdict.ensures in
    let counted = c.indeterminate_count-indeterminate.ensures in
    let unsequenced = c.pairs-unsequenced.ensures in
    let races = c.pairs-races.ensures in
    let due-is = c.is_due-due.ensures ∙ due_for_lem a.edition a.n ρ _ _ _ _ scanned counted unsequenced races in
    let given = rw due-is at c.give_order.ensures in record {
      ruled = record {
        judged = rw (scanned, counted, unsequenced, races, given.value);
        bare = c.indeterminate_reads-bare.ensures;
      };
      order_after = given.order_after;
    }
