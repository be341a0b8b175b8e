use Rattle.std.proofs.Common.{ℕ, ◌≡◌, ◌<◌}
use Rattle.rows.proofs.Laws.Loops.{Gather}
use Rattle.rows.specs.Numbers.{size, wide, has, ran}
use Rattle.rows.specs.Sets.{Rel, image}
use Rattle.rows.proofs.gather_run.Given as goal

abbrev pub invariant-loop-a : goal.invariant-loop-a
invariant-loop-a g l = (l.a-iterator.index < wide) × ((r : Rel) → ((a : ℕ) (x : _) → a < size → goal.F-post g l.step a x → has x ≡ r a) → Gather size (image size (ran l.fn.these) r) r (has l.all) (ran l.a-iterator))
