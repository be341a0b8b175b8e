-- `checks::begin`: the first line, then the others' answer. Assumes nothing.
use borrow.Author.Rules.{rules}
use mathlib.Core.Path.{sym, ◌∙◌}
use Rattle.trace.specs.Laws.Walks.{first_missing, first_stands}
use Rattle.trace.proofs.checks.begin.Goals as goal

pub returns-in_err-unless : goal.returns-in_err-unless
returns-in_err-unless c = rw (first_missing c.args.s.now (rw c.first_line-first.ensures at (sym c.unless.ensures ∙ c.in_err-unless.was))) (search rules)

pub returns-in_err-lines : goal.returns-in_err-lines
returns-in_err-lines c =
    let stood = first_stands c.args.s.now (rw c.first_line-first.ensures at (sym c.unless.ensures ∙ c.in_ok-unless.was)) in
    rw (stood.0 ∙ rw (c.first_line-first.ensures, stood.1) at (sym c.lines.ensures ∙ c.in_err-lines.was)) (search rules)

pub returns : goal.returns
returns c =
    let stood = first_stands c.args.s.now (rw c.first_line-first.ensures at (sym c.unless.ensures ∙ c.in_ok-unless.was)) in
    rw (stood.0 ∙ rw (c.first_line-first.ensures, stood.1) at (sym c.lines.ensures ∙ c.in_ok-lines.was), c.first_line-first.ensures, stood.1)
