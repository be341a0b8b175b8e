use Rattle.rules.specs.Laws.Orders.{first_found}
use Rattle.desk.specs.Laws.Notes.{noted_size}
use Rattle.model.specs.Model.{rules, rule4, tested}
use Rattle.rows.specs.Numbers.{held}
use Rattle.rules.proofs.orders.rule4_test.Goals as goal

pub returns : goal.returns
unfolding rules rule4 tested
returns c = let s = c.args in
    λ h l.
    let small = noted_size s.desk.now.n s.desk.now.book.now s.desk.now.notes.now h in
    first_found s.desk.now.n (held s.desk.now.book.now) s.a _
    (c.or-2.ensures s.desk.now.n (held s.desk.now.book.now) _ _ _ _ small
    (c.or.ensures s.desk.now.n (held s.desk.now.book.now) _ _ _ _ small c.whole_test.ensures c.whole_test-2.ensures)
    c.whole_test-3.ensures)
