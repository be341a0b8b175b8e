use Rattle.rows.proofs.Laws.Parts.{joined_row}
use Rattle.rows.proofs.gather.Goals as goal

pub returns : goal.returns
returns g c = λ r h. joined_row c.args.from _ _ r _ _ _ c.run.ensures c.run-2.ensures c.or.ensures (c.gather_run.ensures r h) (c.gather_run-2.ensures r h)
