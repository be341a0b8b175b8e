use Rattle.relations.proofs.sync.r_row.Goals as goal

pub returns : goal.returns
returns c = rw (c.or-2.ensures, c.join.ensures, c.or.ensures, c.row-dob.ensures, c.row-sw.ensures)
