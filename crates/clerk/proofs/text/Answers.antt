-- A length that is told fits.
use Rattle.std.proofs.Common.{sym, ◌∙◌, rules}
use Rattle.translator.specs.Laws.Rooms.{text_fits}
use Rattle.clerk.proofs.text.Goals as goal

pub send_made-requires : goal.send_made-requires
send_made-requires g c k told = let fits = text_fits _ _ k (sym told ∙ c.text_of_file-made.ensures.0) in search rules
