use Rattle.std.proofs.Common.{◌≡◌}
use Rattle.rows.specs.Numbers.{rel, held}
use Rattle.rows.specs.Sets.{before, converse}
use Rattle.rows.proofs.turn.Given as goal

abbrev pub invariant-loop-a : goal.invariant-loop-a
invariant-loop-a l = held l.part 0 ≡ (λ w. before (converse (rel l.list) w) l.a)
