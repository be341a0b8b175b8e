-- `lines::step_at`: a drain if its word stands, which leaves room for the sum; else an action. Assumes nothing.
use mathlib.Core.Path.{sym, ◌∙◌}
use native.Mathlib.Omega.{arith}
use Rattle.page.specs.Lines.{ascii}
use Rattle.spelling.specs.Laws.Stands.{stands_room}
use Rattle.trace.proofs.lines.step_at.Goals as goal

pub overflow_add-at : goal.overflow_add-at
overflow_add-at c =
    let a = c.args in
    omega (arith, stands_room a.s.now a.at (ascii "drain") (omega arith) (sym c.stands.ensures ∙ c.if-stands.true))
