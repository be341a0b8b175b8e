use Rattle.slow.proofs.derived.cad_step.Goals as goal

pub returns : goal.returns
returns c = rw (c.edge-3.ensures, c.edge-2.ensures, c.edge.ensures)
