use Rattle.slow.proofs.derived.sw_mutex.Goals as goal

pub returns : goal.returns
returns c = rw (c.edge-2.ensures, c.is-2.ensures, c.is.ensures, c.edge.ensures)
