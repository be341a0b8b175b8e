use Prim.Native.Nat.{◌≤◌, ◌<◌}
use mathlib.Core.Logic.{⊎_elim}
use mathlib.Core.Path.{ap, ◌∙◌}
use native.Mathlib.Omega.{arith}
use Rattle.rows.specs.Sets.{least}
use Rattle.rows.specs.Numbers.{size, has, held}
use Rattle.rows.specs.Laws.Truth.{lt_or_le}
use Rattle.model.specs.Judge.{precedes}
use Rattle.order.proofs.Steps.{next_found, next_none}
use Rattle.order.proofs.next.Goals as goal

pub returns : goal.returns
returns c =
    let s = c.args in
    let a = c.lowest.result in
    let r = precedes s.n (held s.d.now) in
    let low = c.lowest.ensures ∙ ap (least size) c.free.ensures in
    ⊎_elim
    (λ (l : a < s.n). omega (arith, next_found s.n size r (has s.left) a c.requires low l))
    (λ (l : s.n ≤ a). omega (arith, next_none s.n size r (has s.left) a c.requires low l))
    (lt_or_le a s.n)
