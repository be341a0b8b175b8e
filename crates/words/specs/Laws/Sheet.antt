-- The sheet before the first action, and actions that it has room for.
use Rattle.std.specs.Prelude.{ℕ, ◌≤◌, true, ◌&&◌, List, ◌≡◌, ltb}
use Rattle.std.proofs.Common.{arith, below_none, ltb-true}
use Rattle.rows.specs.Numbers.{width}
use Rattle.rows.specs.Laws.Truth.{and_1, and_2}
use Rattle.model.specs.Candidates.{action_ok, place_ok, values_ok}
use Rattle.model.specs.declared.Action.{Action}
use Rattle.words.specs.Sheet.{Small, Sheet}

-- a sheet of no action asks nothing
pub sheet_none : (acts : List Action) (places s : List ℕ) → Sheet 0 acts places s
sheet_none acts places s = record { notes = below_none _; small = below_none _ }

-- a well-formed action of at most `width` threads and places has room
pub small_ok : (t p : ℕ) (x : Action) → t ≤ width → p ≤ width → action_ok t p x ≡ true → Small x
unfolding action_ok
small_ok t p x lt lp ok =
    let head = and_1 (ltb x.thread t && place_ok p x) (values_ok x) ok in
    record {
      low_place = λ e. let z : ltb x.place p ≡ true = rw e at (and_2 (ltb x.thread t) (place_ok p x) head) in omega (arith, ltb-true x.place p z);
      low_thread = omega (arith, ltb-true x.thread t (and_1 (ltb x.thread t) (place_ok p x) head));
    }
