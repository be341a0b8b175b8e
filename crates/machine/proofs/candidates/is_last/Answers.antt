-- `candidates::is_last`: it is of thread 0, and none of thread 0 is after it. Assumes nothing.
use mathlib.Core.Bool.{not}
use mathlib.Core.Path.{sym, ap, ◌∙◌}
use native.Mathlib.Omega.{arith}
use Rattle.rows.specs.Numbers.{size}
use Rattle.rows.specs.Sets.{Set, any, after}
use Rattle.machine.specs.Code.{of_thread, state_of}
use Rattle.machine.specs.Laws.Rows.{before_at, any_later}
use Rattle.machine.proofs.candidates.is_last.Goals as goal

pub returns-then-contains : goal.returns-then-contains
unfolding state_of
returns-then-contains c =
    let m = c.args.m in
    let a = c.args.a in
    rw (sym (before_at _ (of_thread m.acts 0) m.n a c.requires.1 c.requires.0) ∙ sym c.contains.ensures ∙ c.if-contains.true)
    (c.is_empty.ensures
    ∙ ap not (ap (any size) (c.after.ensures ∙ ap (λ (t : Set). after t a) c.requires.1) ∙ any_later (of_thread m.acts 0) a m.n size (omega (arith, m.few))))

pub returns-else-contains : goal.returns-else-contains
unfolding state_of
returns-else-contains c =
    let m = c.args.m in
    rw (sym (before_at _ (of_thread m.acts 0) m.n c.args.a c.requires.1 c.requires.0) ∙ sym c.contains.ensures ∙ c.if-contains.false) c.if-contains.false
