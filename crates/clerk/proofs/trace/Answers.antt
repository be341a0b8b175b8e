-- A length that is told fits.
use Rattle.std.proofs.Common.{sym, ◌∙◌, rules}
use Rattle.clerk.specs.Laws.Traces.{trace_fits}
use Rattle.clerk.proofs.trace.Goals as goal

pub send_made-requires : goal.send_made-requires
send_made-requires g c k told = let fits = trace_fits _ _ k (sym told ∙ c.in_ok-made.ensures.told.0) in search rules
