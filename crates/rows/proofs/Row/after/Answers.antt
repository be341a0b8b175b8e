use mathlib.Core.Path.{sym, ◌∙◌}
use native.Mathlib.Omega.{arith}
use Rattle.rows.proofs.Laws.Parts.{has_out}
use Rattle.rows.specs.Laws.Sets.{after_out}
use Rattle.rows.specs.Numbers.{has}
use Rattle.rows.proofs.Row.after.Goals as goal

pub returns-else-a-lt-SIZE : goal.returns-else-a-lt-SIZE
returns-else-a-lt-SIZE c =
    let a = c.args in
    c.empty.ensures ∙ sym (after_out (has a.self) a.a (λ b l. has_out a.self b (omega arith)))
