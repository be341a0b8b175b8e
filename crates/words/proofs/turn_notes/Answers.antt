use mathlib.Core.Path.{◌∙◌}
use Rattle.words.proofs.Book.{turned_part}
use Rattle.words.proofs.turn_notes.Goals as goal

pub returns : goal.returns
returns c = let a = c.args in c.turn.ensures ∙ turned_part a.n a.sheet.now a.k c.requires.0
