-- `lay_half`: three relations copied one after another. Assumes nothing.
use Rattle.search.specs.Laws.Edges.{half_laid}
use Rattle.search.proofs.lay_half.Goals as goal

pub returns : goal.returns
returns c = half_laid _ _ _ _ _ c.copy.ensures c.copy-2.ensures c.copy-3.ensures
