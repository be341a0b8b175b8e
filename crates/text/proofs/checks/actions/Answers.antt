use borrow.Author.Rules.{rules}
use Rattle.text.specs.Texts.{action_test, action_step}
use Rattle.text.proofs.checks.actions.Goals as goal

pub returns : goal.returns
returns c = c.lines.ensures (action_test c.args.s.now c.args.t c.args.p) (action_step c.args.s.now) (λ i q r told. search rules)
