use Rattle.std.proofs.Common.{◌≡◌, ℕ, ◌-◌, ◌<◌}
use Rattle.model.specs.Refusals.{Walk}
use Rattle.drawing.specs.Files.{walks}
use Rattle.drawing.proofs.walk.Given as goal

-- what is left to check from here is the whole answer
abbrev pub invariant-loop-i : goal.invariant-loop-i
invariant-loop-i g l = (f : ℕ → Walk) → ((i : ℕ) (r : Walk) → i < l.n → goal.F-post g l.part i r → r ≡ f i) → walks f 0 l.n ≡ walks f l.i (l.n - l.i)
