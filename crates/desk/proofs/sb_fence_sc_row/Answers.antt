use Rattle.desk.proofs.sb_fence_sc_row.Goals as goal

pub returns : goal.returns
returns c = rw (c.join.ensures, c.and.ensures, c.sc_fences.ensures, c.load.ensures)
