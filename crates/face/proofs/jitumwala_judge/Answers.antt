use mathlib.Core.List.{◌++◌}
use mathlib.Core.Path.{sym, ap, ◌∙◌}
use native.Mathlib.Omega.{arith}
use lib.ListN.{length, drop}
use borrow.Author.Tests.{le-leb, lt-leb}
use Rattle.model.specs.Refusals.{Answer}
use Rattle.face.specs.Face.{told, answer_length}
use Rattle.face.specs.Laws.Positions.{answer_placed}
use Rattle.face.proofs.jitumwala_judge.Goals as goal

pub returns-then-answer-lt-ANSWER_LENGTH : goal.returns-then-answer-lt-ANSWER_LENGTH
returns-then-answer-lt-ANSWER_LENGTH c =
    let e = lt-leb answer_length (length c.args.answer.now) (omega arith) in
    record { value = sym e; store_after = rw e; order_after = rw e; answer_after = rw e }

pub tell-requires : goal.tell-requires
tell-requires c =
    let s = c.args in
    (omega arith, answer_placed s.file.now s.store.now s.order.now _ c.judge.ensures.value)

pub returns : goal.returns
returns c =
    let s = c.args in
    let e = le-leb answer_length (length s.answer.now) c.if-answer-lt-ANSWER_LENGTH.false in
    let j = c.judge.ensures in
    record { value = sym e; store_after = rw e j.store_after; order_after = rw e j.order_after; answer_after = rw e (c.tell.ensures ∙ ap (λ (r : Answer). told r ++ drop answer_length s.answer.now) j.value) }
