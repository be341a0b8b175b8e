use Prim.Native.Nat.{◌≤◌, ◌-◌}
use native.Mathlib.Omega.{arith}
use lib.ListN.{get_or-eq_default}
use Rattle.rows.specs.Numbers.{held}
use Rattle.rows.specs.Sets.{never}
use Rattle.slow.specs.Searches.{steps}
use Rattle.slow.proofs.fill.step.Goals as goal

pub returns-in-7 : goal.returns-in-7
unfolding steps
returns-in-7 c = λ h. rw (c.in-7.is, c.rs.ensures)

pub returns-in-8 : goal.returns-in-8
unfolding steps
returns-in-8 c = λ h. rw (c.in-8.is, c.hrs.ensures)

pub returns-in-9 : goal.returns-in-9
unfolding steps
returns-in-9 c = λ h. rw (c.in-9.is, c.sw.ensures.value)

pub returns-in-10 : goal.returns-in-10
unfolding steps
returns-in-10 c = λ h. rw (c.in-10.is, c.cad_step.ensures)

pub returns-in-11 : goal.returns-in-11
unfolding steps
returns-in-11 c = λ h. rw (c.in-11.is, c.dob.ensures.value)

pub returns-in-12 : goal.returns-in-12
unfolding steps
returns-in-12 c = λ h. rw (c.in-12.is, c.ithb_step.ensures)

pub returns-in-13 : goal.returns-in-13
unfolding steps
returns-in-13 c = λ h. rw (c.in-13.is, c.hb.ensures)

pub returns-in-14 : goal.returns-in-14
unfolding steps
returns-in-14 c = λ h. rw (c.in-14.is, c.vse.ensures)

pub returns-in-15 : goal.returns-in-15
unfolding steps
returns-in-15 c = λ h. rw (c.in-15.is, c.vsse.ensures)

pub returns-in-16 : goal.returns-in-16
unfolding steps
returns-in-16 c = λ h. rw (c.in-16.is, c.data_race.ensures)

pub returns-in-17 : goal.returns-in-17
unfolding steps
returns-in-17 c = λ h. rw (c.in-17.is, c.unsequenced_race.ensures)

pub returns-in_default : goal.returns-in_default
unfolding steps
returns-in_default c =
    let a = c.args in
    λ h.
    let from-11 : 11 ≤ a.k = omega arith in
    let from-15 : 15 ≤ a.k = omega arith in
    let past : 11 ≤ a.k - 7 = omega arith in
    rw (get_or-eq_default (steps a.t.n (held a.t.numbers.now)) never past)
