use Rattle.std.proofs.Common.{sym, ◌∙◌, refl, add-one}
use Rattle.rows.specs.Numbers.{has}
use Rattle.rows.specs.Sets.{any}
use Rattle.rows.proofs.Laws.Quantifiers.{any_in}
use Rattle.machine.specs.Code.{waits}
use Rattle.machine.proofs.queues.is_filled.Goals as goal

pub loop-a-init : goal.loop-a-init
unfolding any
loop-a-init c = refl

pub returns-then-queued : goal.returns-then-queued
returns-then-queued c =
    let a = c.args in
    let e = rw c.contains.ensures at c.queued.ensures in
    sym (any_in a.n (waits a.acts (has a.waiting) a.thread) c.loop-a.a c.loop-a-test.true (sym e ∙ c.if-queued.true))

pub loop-a-preserved : goal.loop-a-preserved
unfolding any
loop-a-preserved c =
    let e = rw c.contains.ensures at c.queued.ensures in
    rw (add-one c.loop-a.a, c.loop-a.invariant) (sym e ∙ c.if-queued.false)
