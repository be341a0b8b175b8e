use Rattle.std.specs.Prelude.{ℕ, ◌≡◌}
use Rattle.model.specs.Refusals.{Walk}
use Rattle.text.specs.Reads.{Reached}
use Rattle.text.specs.Texts.{reached}
use Rattle.text.specs.Laws.Walks.{Walking}
use Rattle.text.proofs.checks.lines.Given as goal

-- the lines so far passed, and those from here on decide
abbrev pub invariant-loop : goal.invariant-loop
invariant-loop g l = (test : ℕ → Walk) (step : ℕ → ℕ → ℕ) → ((i q : ℕ) (r : Reached) → goal.F-post g l.line q r → r ≡ reached (test q) (step i q)) → Walking test step l.at l.n l.counter l.next
