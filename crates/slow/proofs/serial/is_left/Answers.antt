use Rattle.slow.proofs.serial.is_left.Goals as goal

pub returns : goal.returns
returns c = rw c.edge.ensures
