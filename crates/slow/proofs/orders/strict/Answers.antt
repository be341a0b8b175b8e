use Rattle.slow.proofs.orders.strict.Goals as goal

pub returns : goal.returns
returns c = rw (c.leads-2.ensures, c.joined.ensures, c.leads.ensures)
