use Rattle.rows.proofs.Laws.Closure.{closing_none, closing_more, closing_idle, closing_done}
use Rattle.std.proofs.Common.{◌≡◌, arith}
use Rattle.rows.specs.Numbers.{held}
use Rattle.rows.proofs.close.Goals as goal

pub loop-init : goal.loop-init
loop-init c = closing_none c.args.n (held c.args.part.now 0)

pub returns-then-not-close_round : goal.returns-then-not-close_round
returns-then-not-close_round c =
    let l = c.loop in
    closing_idle c.args.n (held c.args.part.now 0) (held l.part 0) (held c.close_round.new.part 0) l.counter _ l.invariant c.close_round.ensures c.if-not-close_round.true

pub loop-preserved : goal.loop-preserved
loop-preserved c =
    let l = c.loop in
    closing_more c.args.n (held c.args.part.now 0) (held l.part 0) (held c.close_round.new.part 0) l.counter _ l.invariant c.close_round.ensures c.loop-test.true

pub returns : goal.returns
returns c =
    let l = c.loop in
    let e : l.counter ≡ c.args.n = omega arith in
    closing_done c.args.n (held c.args.part.now 0) (held l.part 0) (rw e at l.invariant)
