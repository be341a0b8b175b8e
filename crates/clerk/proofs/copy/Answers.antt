-- A length that is told fits.
use Rattle.std.proofs.Common.{sym, ◌∙◌, rules}
use Rattle.copyist.specs.Laws.Copying.{copy_fits}
use Rattle.clerk.proofs.copy.Goals as goal

pub send_made-requires : goal.send_made-requires
send_made-requires g c k told = let fits = copy_fits _ _ k (sym told ∙ c.copy-made.ensures.0) in search rules
