use Rattle.table.specs.Laws.Table.{held_pair}
use Rattle.rows.proofs.Laws.Parts.{held_short, held_wide, held_out}
use Rattle.rows.specs.Numbers.{bit}
use Rattle.rows.specs.Sets.{Set, Rel}
use mathlib.Core.Path.{sym, ap}
use Rattle.table.proofs.edge.Goals as goal

pub returns-then-t-from : goal.returns-then-t-from
returns-then-t-from c =
    let s = c.args in
    sym (ap (λ (r : Rel). r s.a s.b) (held_short s.t.now s.k c.if-t-from.true))

pub returns-then-b-lt-SIZE : goal.returns-then-b-lt-SIZE
unfolding bit
returns-then-b-lt-SIZE c =
    let s = c.args in
    sym (held_pair s.t.now s.k s.a s.b c.if-a-lt-SIZE.true c.if-b-lt-SIZE.true c.if-t-from.false)

pub returns-else-b-lt-SIZE : goal.returns-else-b-lt-SIZE
returns-else-b-lt-SIZE c = let s = c.args in sym (held_wide s.t.now s.k s.a s.b c.if-b-lt-SIZE.false)

pub returns-else-a-lt-SIZE : goal.returns-else-a-lt-SIZE
returns-else-a-lt-SIZE c =
    let s = c.args in
    sym (ap (λ (r : Set). r s.b) (held_out s.t.now s.k s.a c.if-a-lt-SIZE.false))
