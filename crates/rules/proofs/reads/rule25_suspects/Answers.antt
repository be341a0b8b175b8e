use native.Mathlib.Omega.{arith}
use Rattle.rules.specs.Laws.Reads.{rule25_by_lem}
use Rattle.rows.specs.Numbers.{held}
use Rattle.rules.proofs.reads.rule25_suspects.Goals as goal

pub returns : goal.returns
returns c =
    let s = c.args in
    λ h. rw (c.atomic_writes.ensures, rule25_by_lem s.desk.now.n (held s.desk.now.book.now)) at (c.overtaken_suspects.ensures (omega arith) h)
