use Rattle.model.specs.Model.{filled}
use Rattle.model.specs.Limits.{desk_length}
use Rattle.rows.proofs.Laws.Parts.{zeros_none}
use mathlib.Core.Path.{ap, ◌∙◌}
use borrow.Author.Rules.{rules}
use Rattle.inspector.proofs.judge_actions.Goals as goal

pub lay-requires : goal.lay-requires
lay-requires c = (search rules, search rules, search rules, zeros_none desk_length)

pub returns : goal.returns
returns c =
    let s = c.args in
    let derived = c.derive.ensures in
    let Filled-is = derived.t_after ∙ ap (filled s.n) c.lay.ensures in
    record { ruled = rw Filled-is at c.judge_table.ensures.ruled; store = λ j. derived.by_index j ∙ rw Filled-is; order = rw Filled-is at c.judge_table.ensures.order_after }
