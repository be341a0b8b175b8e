use Rattle.std.proofs.Common.{◌≡◌, cond, []}
use Rattle.rows.specs.Numbers.{held, joined}
use Rattle.page.specs.Pens.{penned}
use Rattle.spelling.specs.Spelling.{edge_line}
use Rattle.translator.proofs.writing.relation_edges.Given as goal

abbrev pub invariant-loop-a : goal.invariant-loop-a
invariant-loop-a l = l.pen ≡ penned l.initial.pen (joined l.a λ j. joined l.n λ b. cond (held l.store l.k j b) (edge_line l.k j b) [])
