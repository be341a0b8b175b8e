use Rattle.std.proofs.Common.{◌≡◌}
use Rattle.rows.specs.Numbers.{joined}
use Rattle.page.specs.Pens.{penned}
use Rattle.drawing.specs.Files.{relation_record}
use Rattle.lists.specs.Lists.{rows_in}
use Rattle.writer.proofs.put_relations.Given as goal

abbrev pub invariant-loop-k : goal.invariant-loop-k
invariant-loop-k l = l.pen ≡ penned l.initial.pen (joined l.k λ j. relation_record l.n j (rows_in l.store l.n j))
