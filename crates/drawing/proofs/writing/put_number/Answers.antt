use Rattle.std.proofs.Common.{◌≡◌, ◌+◌, ◌-◌, ◌/◌, ◌%◌, ◌∙◌, suc, sym, arith}
use Rattle.page.specs.Laws.Pens.{byte_then}
use Rattle.drawing.specs.Files.{le}
use Rattle.drawing.proofs.writing.put_number.Goals as goal

pub loop-preserved : goal.loop-preserved
unfolding le
loop-preserved c =
    let l = c.loop in
    let more : c.args.width - l.counter ≡ suc (c.args.width - (l.counter + 1)) = omega arith in
    rw c.put_byte.ensures (rw more at l.invariant ∙ sym (byte_then l.pen (l.rest % 256) (le (c.args.width - (l.counter + 1)) (l.rest / 256))))
