use Rattle.slow.proofs.offences.writes_of.Goals as goal

pub returns : goal.returns
returns c = rw (c.is-2.ensures, c.is.ensures, c.of_atomic.ensures)
