-- `candidates::is_first`: no action of its thread is before it. Assumes nothing.
use mathlib.Core.Bool.{not}
use mathlib.Core.Path.{ap, ◌∙◌}
use native.Mathlib.Omega.{arith}
use borrow.Author.Tests.{eq-eqb, ne_eqb}
use Rattle.rows.specs.Numbers.{size}
use Rattle.rows.specs.Sets.{any}
use Rattle.machine.specs.Code.{of_thread, state_of}
use Rattle.machine.specs.Laws.Rows.{any_earlier}
use Rattle.machine.proofs.candidates.is_first.Goals as goal

pub returns-then-thread-ne0 : goal.returns-then-thread-ne0
unfolding state_of
returns-then-thread-ne0 c =
    rw (ne_eqb _ 0 c.if-thread-ne0.true)
    (c.is_empty.ensures
    ∙ ap not (ap (any size) c.of_thread.ensures ∙ any_earlier (of_thread c.args.m.acts _) c.args.b c.args.m.n size (omega arith) (omega (arith, c.args.m.few))))

pub returns-else-thread-ne0 : goal.returns-else-thread-ne0
unfolding state_of
returns-else-thread-ne0 c = rw (eq-eqb _ 0 c.if-thread-ne0.false)
