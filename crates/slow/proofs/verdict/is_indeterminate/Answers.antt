use Rattle.slow.proofs.verdict.is_indeterminate.Goals as goal

pub returns : goal.returns
returns c = rw (c.reached.ensures, c.is.ensures)
