use Rattle.std.proofs.Common.{◌<◌}
use Rattle.rows.proofs.Laws.Loops.{Gaining}
use Rattle.rows.specs.Numbers.{wide, size, ran, held}
use Rattle.rows.specs.Sets.{single}
use Rattle.rows.proofs.mark_run.Given as goal

abbrev pub invariant-loop-a : goal.invariant-loop-a
invariant-loop-a l = (l.a-iterator.index < wide) × Gaining size (λ row. single l.b) (held l.initial.part 0) (ran l.fn.these) (held l.part 0) (ran l.a-iterator)
