-- `writing::row_edges`: what was written to the array is the relation's whole word.
use Rattle.std.proofs.Common.{◌∙◌, arith}
use Rattle.page.specs.Laws.Measured.{written_front}
use Rattle.spelling.specs.Spelling.{edge_line}
use Rattle.spelling.proofs.Laws.Lengths.{word_length}
use Rattle.translator.proofs.writing.row_edges.Goals as goal

pub returns : goal.returns
unfolding edge_line
returns c = rw (c.written.ensures ∙ written_front c.new-relation.ensures c.put_relation.ensures (omega (arith, word_length c.args.k)) (omega arith)) at c.row_lines.ensures
