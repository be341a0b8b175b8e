use borrow.Author.Rules.{rules}
use mathlib.Core.Path.{◌≡◌, sym, ◌∙◌}
use Rattle.std.specs.Prelude.{Err}
use Rattle.text.specs.Laws.Walks.{walk_start, walk_go, walk_stop, walk_done}
use Rattle.text.proofs.checks.lines.Goals as goal

pub loop-init : goal.loop-init
loop-init g c = λ test step told. walk_start

pub returns-in_err-next : goal.returns-in_err-next
returns-in_err-next g c = λ test step told.
    let left : c.from_residual.result ≡ Err c.in_err-next.field-0.0 = search rules in
    left ∙ sym (walk_stop (c.loop.invariant test step told) c.loop-test.true (sym (told c.loop.counter _ _ c.line.ensures) ∙ c.in_err-next.was))

pub loop-preserved : goal.loop-preserved
loop-preserved g c = λ test step told.
    walk_go (c.loop.invariant test step told) c.loop-test.true (sym (told c.loop.counter _ _ c.line.ensures) ∙ c.in_ok-next.was)

pub returns : goal.returns
returns g c = λ test step told. sym (walk_done (c.loop.invariant test step told) c.loop-test.false)
