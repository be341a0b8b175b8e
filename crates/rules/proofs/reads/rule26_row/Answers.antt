use native.Mathlib.Omega.{arith}
use Rattle.rules.specs.Laws.Reads.{rule26_by_lem}
use Rattle.rows.specs.Numbers.{held}
use Rattle.rules.proofs.reads.rule26_row.Goals as goal

pub returns : goal.returns
returns c =
    let s = c.args in
    λ h l. rw (c.atomic_writes.ensures, rule26_by_lem s.desk.now.n (held s.desk.now.book.now)) at (c.overtaken_row.ensures (omega arith) h l)
