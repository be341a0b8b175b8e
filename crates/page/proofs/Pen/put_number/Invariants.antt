use Prim.Native.Nat.{◌^◌, ◌<◌, ◌≤◌}
use mathlib.Core.List.{◌++◌}
use mathlib.Core.Path.{◌≡◌}
use lib.ListN.{drop, length}
use Rattle.page.specs.Lines.{decimal}
use Rattle.page.proofs.Pen.put_number.Given as goal

abbrev pub invariant-loop-left : goal.invariant-loop-left
invariant-loop-left l = (l.left < 10 ^ l.first) × (l.first ≤ length l.digits) × (length l.digits ≡ 20) × (decimal l.n ≡ decimal l.left ++ drop l.first l.digits)

abbrev pub decreases-loop-left : goal.decreases-loop-left
decreases-loop-left l = l.left
