-- What was written to the array is the whole line.
use Rattle.std.proofs.Common.{◌≤◌, arith, sym, length-take-le, rules}
use Rattle.judge.specs.Laws.Judging.{number_small}
use Rattle.clerk.specs.Laws.Traces.{refused_penned}
use Rattle.clerk.proofs.tell_step.Goals as goal

pub slice_bounds-line-end : goal.slice_bounds-line-end
slice_bounds-line-end g c =
    let fits : c.put_refused.new.pen.at ≤ 64 = refused_penned c.new-pen.ensures c.put_refused.ensures (omega arith) (number_small c.args.refusal.reason) (search rules) in
    search rules

pub slice_bounds-write_all-end : goal.slice_bounds-write_all-end
slice_bounds-write_all-end g c =
    let fits : c.put_refused.new.pen.at ≤ 64 = refused_penned c.new-pen.ensures c.put_refused.ensures (omega arith) (number_small c.args.refusal.reason) (search rules) in
    sym (length-take-le _ _ (search rules))
