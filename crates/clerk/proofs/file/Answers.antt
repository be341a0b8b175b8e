-- A length that is told fits.
use Rattle.std.proofs.Common.{sym, ◌∙◌, rules}
use Rattle.translator.specs.Laws.Rooms.{file_fits}
use Rattle.clerk.proofs.file.Goals as goal

pub send_made-requires : goal.send_made-requires
send_made-requires g c k told = let fits = file_fits _ _ k (sym told ∙ c.file_of_text-made.ensures.0) in search rules
