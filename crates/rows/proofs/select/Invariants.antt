use Rattle.std.proofs.Common.{◌≡◌, ℕ, ◌<◌}
use Rattle.std.specs.Prelude.{Bool}
use Rattle.rows.specs.Numbers.{has}
use Rattle.rows.specs.Sets.{Set, before}
use Rattle.rows.proofs.select.Given as goal

-- the row has those below b
abbrev pub invariant-loop-b : goal.invariant-loop-b
invariant-loop-b g l = (s : Set) → ((b : ℕ) (r : Bool) → b < l.n → goal.F-post g l.holds b r → r ≡ s b) → has l.row ≡ before s l.b
