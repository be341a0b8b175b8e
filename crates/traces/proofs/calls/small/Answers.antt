-- A machine of 2 threads and 1 place is within the limits.
use Rattle.std.specs.Prelude.{Result, Ok, Err}
use Rattle.std.specs.Result.{IsOk}
use Rattle.std.proofs.Common.{refl, sym}
use Rattle.model.specs.declared.refusals.Refusal.{Refusal}
use Rattle.model.proofs.Laws.Refusals.{given_not_refused}
use Rattle.machine.specs.declared.Machine.{Machine}
use Rattle.machine.specs.Machine.{machine_ok}
use Rattle.machine.specs.Code.{Makes}
use Rattle.traces.proofs.calls.small.Goals as goal

-- so it is made
made : (r : Result Machine Refusal) → Makes 2 1 r → IsOk r
unfolding machine_ok
made (Ok m) M = refl
made (Err e) M = absurd (given_not_refused tt e (sym M.answer))

pub unwrap-made-requires : goal.unwrap-made-requires
unwrap-made-requires c = made c.make.result c.make.ensures
