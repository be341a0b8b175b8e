use Rattle.rules.proofs.orders.total_rule_test.Goals as goal

pub returns : goal.returns
returns c = rw (c.tested_by.ensures, c.inside_row.ensures) at c.total_test.ensures
