use mathlib.Core.Path.{ap, sym, ◌∙◌}
use Rattle.rows.proofs.Laws.Loops.{marked_either}
use Rattle.rows.specs.Laws.Loops.{marked}
use Rattle.rows.proofs.Laws.Parts.{has_runs}
use Rattle.rows.specs.Numbers.{ran, held}
use Rattle.rows.specs.Sets.{Set}
use Rattle.rows.proofs.mark.Goals as goal

pub returns : goal.returns
returns c =
    let a = c.args in
    let low = c.run in
    let high = c.run-2 in
    let old = held a.part.now 0 in
    c.mark_run-2.ensures ∙ rw c.mark_run.ensures (marked_either old (ran low.result) (ran high.result) a.b)
    ∙ ap (λ (t : Set). marked old t a.b) (sym (has_runs a.members low.result high.result low.ensures high.ensures))
