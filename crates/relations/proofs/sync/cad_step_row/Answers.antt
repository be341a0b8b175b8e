use Rattle.relations.proofs.sync.cad_step_row.Goals as goal

pub returns : goal.returns
returns c = rw (c.or.ensures, c.row-3.ensures, c.and.ensures, c.row-2.ensures, c.row.ensures)
