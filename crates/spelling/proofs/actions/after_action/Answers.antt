-- The line has room.
use Rattle.std.proofs.Common.{rules, ◌≤◌, length, arith}
use Rattle.spelling.specs.Spelling.{action_line}
use Rattle.spelling.proofs.Laws.Lengths.{action_short}
use Rattle.spelling.proofs.actions.after_action.Goals as goal

pub returns : goal.returns
returns c =
    let short : length (action_line c.args.x) ≤ 64 = action_short c.args.x (omega arith) (omega arith) (omega arith) (omega arith) in
    c.after_text.ensures (action_line c.args.x) (λ p q w. search rules) short
