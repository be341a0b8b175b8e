use mathlib.Core.Path.{refl}
use Rattle.rows.specs.Numbers.{number}
use Rattle.model.specs.Words.{word}
use Rattle.words.proofs.Words.{kind_table, kind_numbers, table_words}
use Rattle.words.proofs.kind_words.Goals as goal

pub returns : goal.returns
unfolding kind_table kind_numbers number word
returns c = rw c.kind_index.ensures.0 (table_words _ _ refl)
