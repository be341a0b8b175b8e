use Rattle.std.proofs.Common.{ℕ, ◌≡◌, true}
use Rattle.rows.proofs.Laws.Loops.{Placing}
use Rattle.rows.specs.Members.{members_left}
use Rattle.rows.specs.Numbers.{size, has, held}
use Rattle.rows.specs.Sets.{Rel, never}
use Rattle.rows.proofs.fill.Given as goal

abbrev pub invariant-loop-a : goal.invariant-loop-a
invariant-loop-a g l = (r : Rel) → ((a : ℕ) (x : _) → has l.fn.these a ≡ true → goal.F-post g l.row a x → has x ≡ r a) → Placing size r (has l.fn.these) never (held l.part 0) (members_left l.a-iterator)
