use Rattle.desk.proofs.others_row.Goals as goal

pub returns : goal.returns
returns c = rw (c.without.ensures, c.full.ensures)
