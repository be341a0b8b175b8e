use Rattle.slow.proofs.orders.immediate.Goals as goal

pub returns : goal.returns
returns c = rw (c.joined.ensures, c.leads.ensures)
