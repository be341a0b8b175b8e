use borrow.Author.Rules.{rules}
use Rattle.text.specs.Texts.{place_test, place_step}
use Rattle.text.proofs.checks.places.Goals as goal

pub returns : goal.returns
returns c = c.lines.ensures (place_test c.args.s.now) (place_step c.args.s.now) (λ i q r told. search rules)
