-- The line has room.
use Rattle.std.proofs.Common.{rules, ◌≤◌, length, arith}
use Rattle.spelling.specs.Spelling.{edge_line}
use Rattle.spelling.proofs.Laws.Lengths.{edge_length}
use Rattle.spelling.proofs.edges.after_edge.Goals as goal

pub returns : goal.returns
returns c =
    let a = c.args in
    let short : length (edge_line a.k a.a a.b) ≤ 48 = edge_length a.k a.a a.b (omega arith) (omega arith) in
    c.after_text.ensures (edge_line a.k a.a a.b) (λ p q w. search rules) short
