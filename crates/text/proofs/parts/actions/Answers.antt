use Rattle.std.proofs.Common.{rules}
use Rattle.spelling.specs.Spelling.{action_read}
use Rattle.text.specs.Texts.{action_step}
use Rattle.text.specs.Parts.{action_no}
use Rattle.text.proofs.parts.actions.Goals as goal

pub returns : goal.returns
unfolding action_no
returns c = c.read.ensures (action_read c.args.s.now) (action_step c.args.s.now) _ (λ i q r told. search rules) c.no_actions.ensures
