use Rattle.rows.proofs.Laws.Parts.{held_put}
use Rattle.rows.proofs.put.Goals as goal

pub returns : goal.returns
returns c = let a = c.args in held_put a.d.now a.k a.a a.r c.requires.0 c.requires.1
