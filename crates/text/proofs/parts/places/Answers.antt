use Rattle.std.proofs.Common.{rules, refl}
use Rattle.rows.specs.Numbers.{listed}
use Rattle.spelling.specs.Spelling.{place_at}
use Rattle.text.specs.Texts.{place_step}
use Rattle.text.specs.Parts.{place_no}
use Rattle.text.proofs.parts.places.Goals as goal

pub returns : goal.returns
unfolding place_no listed
returns c = c.read.ensures (place_at c.args.s.now) (place_step c.args.s.now) _ (λ i q r told. search rules) refl
