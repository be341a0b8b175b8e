use Rattle.slow.proofs.derived.ithb_step.Goals as goal

pub returns : goal.returns
returns c = rw (c.sb_then_r.ensures, c.r.ensures)
