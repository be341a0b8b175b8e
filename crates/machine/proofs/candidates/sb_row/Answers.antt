-- `candidates::sb_row`: the actions of its thread after it. Assumes nothing.
use mathlib.Core.Path.{ap, ◌∙◌}
use Rattle.rows.specs.Sets.{Set, after}
use Rattle.machine.specs.Code.{state_of}
use Rattle.machine.specs.Laws.Rows.{sb_after}
use Rattle.machine.proofs.candidates.sb_row.Goals as goal

pub returns : goal.returns
unfolding state_of
returns c =
    let a = c.args in
    c.after.ensures ∙ ap (λ (s : Set). after s a.a) c.of_thread.ensures ∙ sb_after (state_of a.m) a.a
