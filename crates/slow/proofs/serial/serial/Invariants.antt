use Prim.Native.Nat.{◌-◌, ◌≤◌}
use mathlib.Core.Path.{◌≡◌}
use lib.Dec.{ltb}
use lib.ListN.{length}
use lib.Seq.{sets}
use Rattle.rows.specs.Numbers.{area, held}
use Rattle.model.specs.Judge.{precedes, greedy, onto}
use Rattle.model.specs.Laws.Greedy.{rest}
use Rattle.slow.specs.Searches.{left}
use Rattle.slow.proofs.serial.serial.Given as goal

abbrev pub invariant-loop-i : goal.invariant-loop-i
invariant-loop-i l =
    (l.i ≤ l.t.n) × (length l.order ≡ length l.initial.order) × (length l.given ≡ area)
    × (sets l.order l.i (rest l.t.n (precedes l.t.n (held l.t.numbers.now)) l.i (left l.t.n (held l.given 0 0))) ≡ onto (greedy l.t.n (precedes l.t.n (held l.t.numbers.now)) l.t.n (λ a. ltb a l.t.n)) l.initial.order)

abbrev pub decreases-loop-i : goal.decreases-loop-i
decreases-loop-i l = l.t.n - l.i
