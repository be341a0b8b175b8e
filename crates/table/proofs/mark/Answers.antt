use Rattle.table.specs.Laws.Table.{mark_hit, mark_miss}
use Rattle.table.proofs.mark.Goals as goal

pub returns-then-p : goal.returns-then-p
returns-then-p c =
    mark_hit c.args.t.now c.args.k c.args.a c.args.b c.args.p c.requires.0 c.requires.1 c.requires.2 c.if-p.true

pub returns-else-p : goal.returns-else-p
returns-else-p c =
    mark_miss c.args.t.now c.args.k c.args.a c.args.b c.args.p c.requires.0 c.requires.1 c.requires.2 c.if-p.false
