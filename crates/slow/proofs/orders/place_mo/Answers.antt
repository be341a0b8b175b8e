use Rattle.slow.proofs.orders.place_mo.Goals as goal

pub returns : goal.returns
returns c = rw (c.edge.ensures, c.of_atomic.ensures)
