use Rattle.slow.proofs.orders.mutex_sc.Goals as goal

pub returns : goal.returns
returns c = rw (c.edge.ensures, c.of_mutex.ensures)
