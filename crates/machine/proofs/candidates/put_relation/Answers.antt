-- `candidates::put_relation`: relation k's rows below a are the candidate's, and the other relations as they were. Assumes nothing.
use mathlib.Core.Path.{◌≡◌}
use native.Mathlib.Omega.{arith}
use Rattle.rows.specs.Numbers.{size}
use Rattle.rows.proofs.Laws.Parts.{held_out}
use Rattle.machine.specs.Code.{state_of}
use Rattle.machine.specs.Laws.Rows.{put_done}
use Rattle.machine.proofs.candidates.put_relation.Goals as goal

pub returns : goal.returns
unfolding state_of
returns c =
    let l = c.loop-a in
    let e : l.a ≡ size = omega arith in
    put_done c.requires.0 (omega (arith, c.args.m.few)) (rw e at l.invariant) (held_out l.store c.args.k)
