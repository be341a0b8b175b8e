-- A refusal is no longer than the longest report.
use Rattle.std.proofs.Common.{rules}
use Rattle.report.proofs.Laws.Lengths.{refused_length, offered_roomy}
use Rattle.clerk.specs.Laws.Numbers.{roomy}
use Rattle.clerk.proofs.tell_refusal.Goals as goal

pub send-requires : goal.send-requires
send-requires g c =
    let r = offered_roomy c.refused-written.ensures (refused_length _ _ (search rules) (search rules)) in
    (search rules, roomy r (search rules))
