use Rattle.std.proofs.Common.{◌≡◌, ℕ}
use Rattle.rows.specs.Numbers.{listed}
use Rattle.text.specs.Laws.Walks.{Reading}
use Rattle.text.proofs.parts.read.Given as goal

-- the lines below i are read, and next stands after them
abbrev pub invariant-loop-i : goal.invariant-loop-i
invariant-loop-i g l =
    (read : ℕ → g.row.T.Denot) (step : ℕ → ℕ → ℕ) (d : g.row.T.Denot) → ((i q : ℕ) (r : g.row.T.Denot × ℕ) → goal.F-post g l.line q r → (r.0 ≡ read q) × (r.1 ≡ step i q)) → l.fn.none ≡ listed g.row.N (λ _. d) → Reading read d step l.at g.row.N l.n l.i l.next l.list
