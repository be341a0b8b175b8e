-- The state that the fields of a machine hold; names no machine, so that the type of one can say what its fields keep. Definitions only.
use Rattle.std.specs.Prelude.{ℕ, List, get_or}
use Rattle.rows.specs.Sets.{Set}
use Rattle.rows.specs.Numbers.{has}
use Rattle.rows.specs.declared.Row.{Row}
use Rattle.model.specs.declared.Action.{Action}
use Rattle.model.specs.Actions.{no_action}
use Rattle.machine.specs.Machine.{State}

abbrev pub no_row : Row
no_row = record { low = 0; high = 0 }

abbrev pub state_in : List Action → List ℕ → List ℕ → List Row → Set → ℕ → ℕ → ℕ → State
state_in acts source memory rows waiting t p n =
    record {
      t = t;
      p = p;
      n = n;
      act = λ a. get_or acts a no_action;
      waiting = waiting;
      source = λ a. get_or source a 0;
      memory = λ q. get_or memory q 0;
      before = λ b. has (get_or rows b no_row);
    }
