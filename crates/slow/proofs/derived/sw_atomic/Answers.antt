use Rattle.slow.proofs.derived.sw_atomic.Goals as goal

pub returns : goal.returns
returns c = rw (c.released.ensures, c.edge-2.ensures, c.is-2.ensures, c.is.ensures, c.edge.ensures)
