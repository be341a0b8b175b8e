-- `steps::fresh`: arrays that are the same everywhere hold the start.
use lib.Dec.{leb}
use borrow.Author.Tests.{leb-true}
use Rattle.rows.specs.Laws.Truth.{and_2}
use Rattle.model.specs.Limits.{most_threads, most_places}
use Rattle.machine.specs.Machine.{machine_ok}
use Rattle.machine.specs.Laws.Arrays.{made_state}
use Rattle.machine.specs.Code.{state_of, fitting}
use Rattle.machine.specs.Laws.Reaching.{start_reached, keeps_start}
use Rattle.std.proofs.lemmas.Grind.{merely}
use Rattle.machine.proofs.steps.fresh.Goals as goal

pub returns : goal.returns
unfolding machine_ok state_of
returns c =
    let a = c.args in
    let h = c.requires in
    let acts = c.no_actions.result in
    let row = c.empty-none.result in
    let e = made_state a.t a.p acts row c.no_actions.ensures c.empty-none.ensures in
    (e, keeps_start _ a.t a.p h e (fitting _))

pub invariant_of-result-clause-narrow : goal.invariant_of-result-clause-narrow
unfolding machine_ok
invariant_of-result-clause-narrow c =
    let a = c.args in
    leb-true a.p most_places (and_2 (leb a.t most_threads) (leb a.p most_places) c.requires)

pub invariant_of-result-clause-reached : goal.invariant_of-result-clause-reached
invariant_of-result-clause-reached c =
    let a = c.args in
    rw (made_state a.t a.p c.no_actions.result c.empty-none.result c.no_actions.ensures c.empty-none.ensures) (merely (start_reached a.t a.p c.requires))
