use Rattle.slow.proofs.derived.element.Goals as goal

pub returns : goal.returns
returns c = rw (c.is.ensures, c.edge.ensures)
