use Rattle.slow.proofs.offences.up_to.Goals as goal

pub returns : goal.returns
returns c = rw c.edge.ensures
