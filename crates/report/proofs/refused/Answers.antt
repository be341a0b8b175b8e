use Rattle.std.proofs.Common.{rules}
use Rattle.report.specs.Report.{refused_text}
use Rattle.report.proofs.refused.Goals as goal

pub returns : goal.returns
unfolding refused_text
returns c = rw (← c.number.ensures) (c.offer.ensures (refused_text c.number.result c.args.refusal.at) (λ p q w. search rules))
