-- The line has room.
use Rattle.std.proofs.Common.{rules, ◌≤◌, length, arith}
use Rattle.spelling.specs.Spelling.{header_line}
use Rattle.spelling.proofs.Laws.Lengths.{header_short}
use Rattle.spelling.proofs.first.after_first.Goals as goal

pub returns : goal.returns
returns c =
    let h = c.args.head in
    let text = header_line h.edition h.n h.t h.p in
    let short : length text ≤ 92 = header_short h.edition h.n h.t h.p (omega arith) (omega arith) (omega arith) (omega arith) in
    c.after_text.ensures text (λ p q w. search rules) short
