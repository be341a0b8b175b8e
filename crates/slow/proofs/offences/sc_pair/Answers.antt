use Rattle.slow.proofs.offences.sc_pair.Goals as goal

pub returns : goal.returns
returns c = rw (c.is-2.ensures, c.is.ensures)
