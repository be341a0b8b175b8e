use Rattle.slow.proofs.derived.r.Goals as goal

pub returns : goal.returns
returns c = rw (c.joined.ensures, c.edge-2.ensures, c.edge.ensures)
