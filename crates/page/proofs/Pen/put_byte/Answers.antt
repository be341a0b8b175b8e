use Rattle.page.specs.Laws.Pens.{penned_byte}
use Rattle.page.proofs.Pen.put_byte.Goals as goal

pub returns : goal.returns
returns c = penned_byte c.args.self.now c.args.b c.put_at-self.ensures
