use Rattle.std.proofs.Common.{ℕ, ◌≡◌, ◌+◌, ◌-◌, sym, ap, ◌∙◌, arith}
use Rattle.machine.specs.Laws.Queues.{latest_none, latest_hit, latest_miss}
use Rattle.machine.specs.Machine.{latest}
use Rattle.machine.specs.Code.{waits_at}
use Rattle.rows.specs.Numbers.{has}
use Rattle.machine.proofs.queues.newest.Goals as goal

pub returns-then-queued_at : goal.returns-then-queued_at
returns-then-queued_at c =
    let a = c.args in
    let i = c.loop-a.a in
    let f = waits_at a.acts (has a.waiting) a.thread a.place in
    let q : i - 1 + 1 ≡ i = omega arith in
    let e = rw c.contains.ensures at c.queued_at.ensures in
    latest_hit (i - 1) f (sym e ∙ c.if-queued_at.true) ∙ ap (λ (k : ℕ). latest k f) q ∙ sym c.loop-a.invariant

pub loop-a-preserved : goal.loop-a-preserved
loop-a-preserved c =
    let a = c.args in
    let i = c.loop-a.a in
    let f = waits_at a.acts (has a.waiting) a.thread a.place in
    let q : i ≡ i - 1 + 1 = omega arith in
    let e = rw c.contains.ensures at c.queued_at.ensures in
    c.loop-a.invariant ∙ ap (λ (k : ℕ). latest k f) q ∙ sym (latest_miss (i - 1) f (sym e ∙ c.if-queued_at.false))

pub returns : goal.returns
returns c =
    let z : c.loop-a.a ≡ 0 = omega arith in
    latest_none _ ∙ sym (rw z at c.loop-a.invariant)
