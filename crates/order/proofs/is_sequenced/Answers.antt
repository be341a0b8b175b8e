use Rattle.std.proofs.Common.{sym, ◌∙◌}
use Rattle.std.proofs.lemmas.Bool.{not-true, not-false}
use Rattle.rows.specs.Numbers.{has, held}
use Rattle.order.proofs.Steps.{asking_more, asking_hit, asking_done}
use Rattle.order.proofs.is_sequenced.Goals as goal

pub returns-then-not-is_empty : goal.returns-then-not-is_empty
returns-then-not-is_empty c =
    let a = c.args in
    let row = c.unsequenced_row in
    asking_hit a.n (held a.d.now) c.requires c.in-Some.a (has row.result) (rw (row.ensures, c.before-atomics.ensures, c.load.ensures))
    c.in-Some.ensures.steps c.loop-a.invariant (not-false _ (sym c.is_empty.ensures ∙ c.if-not-is_empty.true))

pub loop-a-preserved : goal.loop-a-preserved
loop-a-preserved c =
    let a = c.args in
    let row = c.unsequenced_row in
    asking_more a.n (held a.d.now) c.requires c.in-Some.a (has row.result) (rw (row.ensures, c.before-atomics.ensures, c.load.ensures))
    c.in-Some.ensures.steps c.loop-a.invariant (not-true _ (sym c.is_empty.ensures ∙ c.if-not-is_empty.false))

pub returns : goal.returns
returns c = asking_done c.args.n (held c.args.d.now) c.requires _ c.loop-a.invariant c.in-None.ensures.steps.0
