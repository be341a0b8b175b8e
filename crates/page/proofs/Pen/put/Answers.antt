use mathlib.Core.Path.{ap}
use Rattle.page.specs.Pens.{on, penned}
use Rattle.page.proofs.Pen.put.Goals as goal

pub returns : goal.returns
unfolding penned
returns c = ap (on c.args.self.now) c.put_word-self.ensures
