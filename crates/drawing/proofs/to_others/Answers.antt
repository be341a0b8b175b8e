use Rattle.std.proofs.Common.{ltb, ltb-true, refl, arith, rules}
use Rattle.rows.specs.Numbers.{has}
use Rattle.rows.specs.Laws.Truth.{and_1, and_2}
use Rattle.rows.proofs.Laws.Loops.{seek_none}
use Rattle.rows.proofs.Laws.Turns.{turn_member}
use Rattle.model.specs.Laws.Others.{others_more, others_hit, others_done}
use Rattle.drawing.proofs.to_others.Goals as goal

pub loop-b-init : goal.loop-b-init
loop-b-init g c =
    let a = c.args in
    rw (c.into_iter-b-iterator.ensures.into_iter_gives, c.before-b-items.ensures)
    (λ b e. ltb-true b a.n (and_2 (has a.row b) (ltb b a.n) e), λ f told. seek_none _ _ _)

pub thread-requires : goal.thread-requires
thread-requires g c =
    let below = c.loop-b.invariant.0 _ (turn_member c.in-Some.ensures.steps) in
    search rules

pub returns-then-thread-own : goal.returns-then-thread-own
returns-then-thread-own g c =
    let a = c.args in
    let h = c.in-Some.ensures.steps in
    let below = c.loop-b.invariant.0 _ (turn_member h) in
    λ f told. others_hit f _ _ _ (c.loop-b.invariant.1 f told) a.n (has a.row) a.a (omega arith) refl (told _ _ (omega arith) c.thread-own.ensures)
    h.some _ _ h.first (told _ _ below c.thread.ensures) c.if-thread-own.true

pub loop-b-preserved : goal.loop-b-preserved
loop-b-preserved g c =
    let h = c.in-Some.ensures.steps in
    let below = c.loop-b.invariant.0 _ (turn_member h) in
    rw h.others (
      λ b e. c.loop-b.invariant.0 b (and_1 _ _ e),
      λ f told. others_more f _ _ _ (c.loop-b.invariant.1 f told) _ _ h.first (told _ _ below c.thread.ensures) c.if-thread-own.false,
    )

pub returns : goal.returns
returns g c =
    let a = c.args in
    λ f told. others_done f _ _ _ (c.loop-b.invariant.1 f told) a.n (has a.row) a.a (omega arith) refl (told _ _ (omega arith) c.thread-own.ensures) c.in-None.ensures.steps.0
