use Rattle.slow.proofs.orders.total.Goals as goal

pub returns : goal.returns
returns c = rw (c.leads-3.ensures, c.leads-2.ensures, c.leads.ensures, c.strict.ensures)
