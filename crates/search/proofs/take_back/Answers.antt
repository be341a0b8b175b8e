-- `take_back`: a row of the given relations is put. Assumes nothing.
use Rattle.rows.specs.Numbers.{has, held}
use Rattle.search.specs.Laws.Edges.{blank_put}
use Rattle.search.proofs.take_back.Goals as goal

pub returns : goal.returns
returns c =
    let a = c.args in
    blank_put a.k a.a (has a.row) (held a.desk.now) _ c.requires.0 c.put.ensures
