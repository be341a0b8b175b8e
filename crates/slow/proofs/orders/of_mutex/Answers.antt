use Rattle.slow.proofs.orders.of_mutex.Goals as goal

pub returns : goal.returns
returns c = rw (c.edge.ensures, c.is.ensures)
