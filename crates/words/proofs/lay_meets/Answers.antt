use mathlib.Core.Path.{◌∙◌}
use Rattle.words.proofs.Book.{through_meets}
use Rattle.words.proofs.lay_meets.Goals as goal

pub returns : goal.returns
returns c = λ j. c.lay_through.ensures j ∙ rw (c.turn_notes.ensures, through_meets c.args.n c.args.sheet.now c.args.i)
