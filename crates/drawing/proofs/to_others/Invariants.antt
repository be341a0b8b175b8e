use Rattle.std.proofs.Common.{◌≡◌, ℕ, ◌<◌, true}
use Rattle.rows.specs.Members.{members_left}
use Rattle.rows.specs.Numbers.{has}
use Rattle.rows.specs.Sets.{before}
use Rattle.model.specs.Laws.Others.{Asking}
use Rattle.model.specs.declared.Action.{Action}
use Rattle.drawing.proofs.to_others.Given as goal

-- the members left are below n, and they decide
abbrev pub invariant-loop-b : goal.invariant-loop-b
invariant-loop-b g l =
    ((b : ℕ) → members_left l.b-iterator b ≡ true → b < l.n)
    × ((f : ℕ → Action) → ((i x : ℕ) → i < l.n → goal.F-post g l.thread i x → x ≡ (f i).thread) → Asking f l.own (before (has l.fn.row) l.n) (members_left l.b-iterator))
