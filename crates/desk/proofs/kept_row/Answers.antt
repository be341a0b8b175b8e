use Rattle.desk.proofs.kept_row.Goals as goal

pub returns : goal.returns
returns c = rw (
  c.and.ensures,
  c.load-3.ensures,
  c.only_if.ensures,
  c.load-2.ensures,
  c.contains-here.ensures,
  c.load.ensures,
)
