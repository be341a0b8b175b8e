use Rattle.slow.proofs.finals.load.Goals as goal

pub returns : goal.returns
returns c = rw (c.is-3.ensures, c.is-2.ensures, c.is.ensures)
