use Rattle.slow.proofs.offences.sc_fence.Goals as goal

pub returns : goal.returns
returns c = rw (c.is-2.ensures, c.is.ensures)
