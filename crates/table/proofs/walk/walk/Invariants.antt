use Rattle.table.specs.Laws.Walk.{Walk, Others}
use Rattle.rows.specs.Sets.{count}
use Rattle.rows.specs.Numbers.{area, held}
use lib.ListN.{length}
use mathlib.Core.Path.{◌≡◌}
use mathlib.Core.Bool.{not}
use Prim.Native.Nat.{◌+◌, ◌-◌, ◌≤◌}
use Rattle.table.proofs.walk.walk.Given as goal

abbrev pub invariant-loop : goal.invariant-loop
invariant-loop l = (length l.reached ≡ area) × ((length l.followed ≡ area) × ((count l.n (λ x. not (held l.followed 0 l.a x)) + l.counter ≤ l.n) × (Walk l.n (held l.t l.k) l.a (held l.reached 0 l.a) (held l.followed 0 l.a) l.c × Others (held l.initial.reached 0) l.a (held l.reached 0))))

abbrev pub decreases-loop : goal.decreases-loop
decreases-loop l = l.n - l.counter
