use Rattle.slow.proofs.derived.sees.Goals as goal

pub returns : goal.returns
returns c = rw (c.passed_by.ensures, c.edge-2.ensures, c.edge.ensures)
