-- A short word and a number are no longer than the longest report.
use Rattle.std.proofs.Common.{rules}
use Rattle.report.proofs.Laws.Lengths.{offered_roomy}
use Rattle.clerk.specs.Laws.Numbers.{counted_length, roomy}
use Rattle.clerk.proofs.tell_count.Goals as goal

pub send-requires : goal.send-requires
send-requires g c =
    let r = offered_roomy c.counted-written.ensures (counted_length c.args.word.now c.args.count c.requires (search rules)) in
    (search rules, roomy r (search rules))
