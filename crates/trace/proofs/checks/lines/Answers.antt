-- `checks::lines`: the lines passed so far, and those from q on decide. Assumes nothing.
use mathlib.Core.Path.{sym, ◌∙◌}
use borrow.Author.Rules.{rules}
use Rattle.trace.specs.Laws.Walks.{going_over, going_stays, going_long, going_on, going_done}
use Rattle.trace.proofs.checks.lines.Goals as goal

pub returns-then-s-q : goal.returns-then-s-q
returns-then-s-q c = sym (going_over c.loop.invariant c.loop-test.true c.if-s-q.true)

pub returns-in_err-unless : goal.returns-in_err-unless
returns-in_err-unless c =
    let line = c.line_at-line.ensures in
    rw (going_stays c.loop.invariant c.loop-test.true c.if-s-q.false (rw line at (sym c.unless.ensures ∙ c.in_err-unless.was))) (search rules)

pub returns-in_err-unless-2 : goal.returns-in_err-unless-2
returns-in_err-unless-2 c =
    let line = c.line_at-line.ensures in
    rw (going_long c.loop.invariant c.loop-test.true c.if-s-q.false (rw line at (sym c.unless-in-loop.ensures ∙ c.in_err-unless-2.was))) (search rules)

pub loop-preserved : goal.loop-preserved
loop-preserved c =
    let line = c.line_at-line.ensures in
    rw line (going_on c.loop.invariant c.loop-test.true c.if-s-q.false (rw line at (sym c.unless.ensures ∙ c.in_ok-unless.was)) (rw line at (sym c.unless-in-loop.ensures ∙ c.in_ok-unless-2.was)))

pub returns : goal.returns
returns c = sym (going_done c.loop.invariant c.loop-test.false)
