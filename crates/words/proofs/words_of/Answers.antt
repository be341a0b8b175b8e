use mathlib.Core.Path.{◌∙◌, fun_ext}
use Rattle.rows.proofs.Laws.Bits.{bit_of_or}
use Rattle.words.proofs.Words.{words_both}
use Rattle.words.proofs.words_of.Goals as goal

pub returns : goal.returns
returns c = (fun_ext λ w. bit_of_or c.place_words.result c.kind_words.result w) ∙ rw (c.kind_words.ensures, c.place_words.ensures) (words_both _ _)
