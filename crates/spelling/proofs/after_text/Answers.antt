-- What the text writes is the whole text.
use Rattle.std.proofs.Common.{◌∙◌, arith}
use Rattle.page.specs.Laws.Measured.{written_front}
use Rattle.spelling.proofs.after_text.Goals as goal

pub returns : goal.returns
returns g c = λ t told short.
    rw (c.written.ensures ∙ written_front c.new-pen.ensures (told _ _ c.text.ensures) short (omega arith)) at c.after.ensures
