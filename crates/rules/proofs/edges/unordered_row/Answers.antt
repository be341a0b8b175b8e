use Rattle.rules.proofs.edges.unordered_row.Goals as goal

pub returns : goal.returns
returns c = rw (
  c.minus.ensures,
  c.and.ensures,
  c.load-sc.ensures,
  c.load-edges.ensures,
  c.only_if-inside.ensures,
  c.contains.ensures,
  c.load-acts.ensures,
)
