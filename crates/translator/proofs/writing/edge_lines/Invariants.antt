use Rattle.std.proofs.Common.{◌≡◌, cond, []}
use Rattle.rows.specs.Numbers.{held, joined}
use Rattle.page.specs.Pens.{penned}
use Rattle.spelling.specs.Spelling.{edge_line}
use Rattle.translator.proofs.writing.edge_lines.Given as goal

abbrev pub invariant-loop-k : goal.invariant-loop-k
invariant-loop-k l = l.pen ≡ penned l.initial.pen (joined l.k λ j. joined l.n λ a. joined l.n λ b. cond (held l.store j a b) (edge_line j a b) [])
