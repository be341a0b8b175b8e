use mathlib.Core.Bool.{Bool, true, false, cond}
use mathlib.Core.Path.{◌≡◌, ◌∙◌, refl, sym}
use lib.Dec.{ltb}
use Rattle.std.specs.Bool.{then_some}
use Rattle.std.specs.Prelude.{ℕ, Some, None}
use Rattle.rows.specs.Numbers.{held}
use Rattle.rules.specs.Laws.Orders.{told_by}
use Rattle.rules.proofs.Found.middle.Goals as goal

by_cases : (t : Bool) (x : ℕ) → then_some t x ≡ cond t (Some x) None
by_cases true x = refl
by_cases false x = refl

pub returns : goal.returns
returns c =
    let s = c.args in
    let z = c.lowest-z.result in
    let first = rw (c.leading.ensures, c.only_if.ensures, c.contains.ensures) at c.lowest-z.ensures in
    λ small. c.then_some.ensures ∙ by_cases (ltb z s.n) z ∙ sym (told_by s.n (held s.d.now) s.self s.b z small first)
