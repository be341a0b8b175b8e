use Rattle.std.proofs.Common.{◌≡◌, sym, ◌∙◌, arith}
use Rattle.spelling.specs.Laws.Steps.{scan_go, scan_stop, scan_over}
use Rattle.spelling.proofs.number_at.Goals as goal

pub returns-then-not-is_longer : goal.returns-then-not-is_longer
returns-then-not-is_longer c =
    let l = c.loop-i in
    sym (l.invariant.left ∙ scan_stop _ l.value l.i c.loop-i-test.true (sym c.is_longer.ensures ∙ c.if-not-is_longer.true))

pub loop-i-preserved : goal.loop-i-preserved
loop-i-preserved c =
    let l = c.loop-i in
    record {
      within = omega arith;
      left = rw c.with_digit-value.ensures (l.invariant.left ∙ scan_go _ l.value l.i c.loop-i-test.true (sym c.is_longer.ensures ∙ c.if-not-is_longer.false));
    }

pub returns : goal.returns
returns c =
    let l = c.loop-i in
    let end : c.max-next.result ≡ l.i = omega (arith, c.max-next.ensures) in
    rw end (sym (l.invariant.left ∙ scan_over _ l.value l.i c.loop-i-test.false))
